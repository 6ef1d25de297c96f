-- Short histories from a fresh desk, each worked out from the definitions by computation: what the calls answer, as number and value of each.
-- There is one for each subject of document 01, for each of its "Tempting and wrong" but the two that stand in Starred.antt (the number stopped at the comma, and only the child's quota charged), and for each
-- refusal that a call gives. Assumes nothing.
use Rattle.std.specs.Prelude.{◌≡◌, refl, List, [], ◌∷◌, ◌++◌, ℕ, zero, suc, replicate}
use Rattle.amount.specs.declared.Cap.{Cap}
use Rattle.amount.specs.declared.Cap.TheVariants.{Unlimited, Bytes}
use Rattle.lists.specs.Lists.{first_row, all_of, any_of, count_if, keep, sum_of, total, no_clash, bit_set}
use Rattle.lists.specs.Bytes.{same_bytes, starts_with}
use Rattle.text.specs.Text.{onto_first, parts, is_part, is_path, is_path_and_slash, is_prefix, is_name}
use Rattle.std.specs.Int.Count.{ones}
use Rattle.rules.specs.declared.VolumeNo.{VolumeNo}
use Rattle.rules.specs.declared.TokenNo.{TokenNo}
use Rattle.rules.specs.declared.RelayNo.{RelayNo}
use Rattle.rules.specs.declared.Account.{Account}
use Rattle.rules.specs.declared.Hash.{Hash}
use Rattle.rules.specs.declared.Mode.{Mode}
use Rattle.rules.specs.declared.Mode.TheVariants.{Read, Write, Both}
use Rattle.rules.specs.declared.Desk.{Desk}
use Rattle.rules.specs.declared.Tables.{Tables}
use Rattle.rules.specs.Fresh.{fresh_desk, fresh_tables, fresh_volume}
use Rattle.rules.specs.Tables.{is_entry, is_put, owned_by, volume_of, token_of, relay_of, entry_of, cleared, with_clock, with_volumes, with_last_volume, with_last_token, with_last_relay, with_version}
use Rattle.rules.specs.Scope.{ScopeArg, scope_fits, narrows, chain, descends}
use Rattle.rules.specs.Relays.{too_few, in_order, ranked, taken, holds_shard, loaded, shard_bytes, bytes_on, shards_on, lightened, eligible_set}
use Rattle.rules.specs.Rent.{sizes_in, effective, rent_for, rent_now}
use Rattle.rules.specs.Sound.{sound_volume, same_name, sound_placement, sound_in, sound_entry, same_entry, volume_there, parent_there, sound_token, sound_relay, sound_put, same_path, sound_session, sound_volumes, sound_entries, sound_tokens, sound_relays, sound_tables, sound}
use Rattle.rules.specs.VolumeCalls.{new_volume, has_name, create_in, create_rule, deposit_in, deposit_rule, delete_in, delete_rule, undelete_in, undelete_rule, drop_entries, remove_entry, remove_in, remove_rule}
use Rattle.rules.specs.TokenCalls.{token_in, new_token, grant_in, grant_rule, attenuate_in, attenuate_rule, revoke_owner, revoke_in, revoke_rule, look_entry, look_in, look_rule}
use Rattle.rules.specs.RelayCalls.{register_in, register_rule, heartbeat_in, heartbeat_rule}
use Rattle.rules.specs.Advance.{relays_leave, after_rent, settled, settle, is_due, is_one_of, collect, at_epoch, advanced, advance_rule}
use Rattle.rules.specs.SessionCalls.{open_volume, open_token, open_rule, stage_put, stage_token, stage_rule, abandon_rule}
use Rattle.rules.specs.Commit.{is_replaced, is_kept, sizes_after, is_new_path, passes_quotas, passes_size, passes_room, below_rent, place_all, store_new, store_at, store_all, charged, committed, commit_placed, commit_limits, commit_token, commit_volume, commit_rule}
use Rattle.rules.specs.Calls.{advance, create, deposit, delete, undelete, grant, attenuate, revoke, remove, look, register, heartbeat, ask_rule, opens, stages, commits, abandons, work_rule, Call, ask, on_slot, rule, step}

-- what a list of calls answers: the number and the value of each
unfoldable pub told : List Call → Desk → List (ℕ × ℕ)
unfolding step rule ask_rule work_rule sound sound_tables sound_relays sound_tokens sound_entries sound_volumes sound_session same_path sound_put sound_relay sound_token parent_there volume_there same_entry sound_entry sound_in sound_placement same_name sound_volume first_row count_if sum_of total no_clash onto_first parts is_part is_path is_path_and_slash is_prefix is_name is_entry is_put owned_by volume_of token_of relay_of entry_of cleared scope_fits narrows chain descends too_few eligible_set bit_set ones in_order ranked taken holds_shard loaded shard_bytes bytes_on shards_on lightened sizes_in effective rent_for rent_now has_name create_in create_rule deposit_in deposit_rule delete_in delete_rule undelete_in undelete_rule drop_entries remove_entry remove_in remove_rule token_in new_token grant_in grant_rule attenuate_in attenuate_rule revoke_owner revoke_in revoke_rule look_entry look_in look_rule register_in register_rule heartbeat_in heartbeat_rule relays_leave after_rent settled settle is_due is_one_of collect at_epoch advanced advance_rule open_volume open_token open_rule stage_put stage_token stage_rule abandon_rule is_replaced is_kept sizes_after is_new_path passes_quotas passes_size passes_room below_rent place_all store_new store_at store_all charged committed commit_placed commit_limits commit_token commit_volume commit_rule
told [] d = []
told (c ∷ cs) d = let o = step c d in (o.answer.number, o.answer.value) ∷ told cs o.desk

-- from a fresh desk, with the rate that the program has
unfoldable pub history : List Call → List (ℕ × ℕ)
unfolding told
history cs = told cs (fresh_desk 100)

-- names for the fields
abbrev pub owner : Account
owner = record { 0 = replicate 32 1 }

abbrev hash : Hash
hash = record { 0 = replicate 32 7 }

abbrev pub volume : ℕ → VolumeNo
volume n = record { 0 = n }

abbrev pub token : ℕ → TokenNo
token n = record { 0 = n }

abbrev relay : ℕ → RelayNo
relay n = record { 0 = n }

-- texts by their bytes
abbrev pub a : List ℕ
a = 97 ∷ []

abbrev pub b : List ℕ
b = 98 ∷ []

abbrev job/ : List ℕ
job/ = 106 ∷ 111 ∷ 98 ∷ 47 ∷ []

abbrev job/x : List ℕ
job/x = 106 ∷ 111 ∷ 98 ∷ 47 ∷ 120 ∷ []

abbrev jobs/x : List ℕ
jobs/x = 106 ∷ 111 ∷ 98 ∷ 115 ∷ 47 ∷ 120 ∷ []

-- a scope with this prefix and cap, for reading and writing, in every block up to 1,000,000
abbrev pub scope : List ℕ → Cap → ScopeArg
scope prefix cap = record { prefix = prefix; mode = Both; cap = cap; «from» = 0; until = 1000000 }

-- volume 1 of 2+1 shards with 1,000 coins, relays 1 to 3 of a million bytes each
abbrev pub begin : List Call
begin =
    ask (create owner a 2 1 Unlimited) ∷ ask (deposit (volume 1) 1000) ∷ ask (register 1000000) ∷ ask (register 1000000)
    ∷ ask (register 1000000)
    ∷ []

abbrev begun : List (ℕ × ℕ)
begun = (0, 1) ∷ (0, 0) ∷ (0, 1) ∷ (0, 2) ∷ (0, 3) ∷ []

-- a session of one put
abbrev pub put : ℕ → ℕ → List ℕ → ℕ → List Call
put slot k path size =
    on_slot slot (opens (token k)) ∷ on_slot slot (stages path size hash) ∷ on_slot slot commits ∷ []

-- an object is put, seen, replaced and removed; the version counts commits and removes
pub put_look_remove : history
    (begin ++ (ask (grant owner (volume 1) (scope [] Unlimited)) ∷ []) ++ put 0 1 a 100 ++ (ask (look (token 1) a) ∷ [])
    ++ put 0 1 a 50
    ++ (ask (look (token 1) a) ∷ ask (remove owner (volume 1) a) ∷ ask (look (token 1) a) ∷ []))
    ≡ begun
    ++ ((0, 1) ∷ (0, 0) ∷ (0, 0) ∷ (0, 1) ∷ (0, 100) ∷ (0, 0) ∷ (0, 0) ∷ (0, 2) ∷ (0, 50) ∷ (0, 3) ∷ (15, 0) ∷ [])
unfolding history
put_look_remove = refl

-- "Prefix "job/" taken as "job": "jobs/x" slips in."
pub prefix_with_its_slash : history
    (begin
    ++ (ask (grant owner (volume 1) (scope job/ Unlimited)) ∷ on_slot 0 (opens (token 1)) ∷ on_slot 0 (stages jobs/x 1 hash)
    ∷ on_slot 0 (stages job/x 1 hash)
    ∷ ask (look (token 1) jobs/x)
    ∷ ask (look (token 1) job/x)
    ∷ []))
    ≡ begun ++ ((0, 1) ∷ (0, 0) ∷ (7, 0) ∷ (0, 0) ∷ (7, 0) ∷ (15, 0) ∷ [])
unfolding history
prefix_with_its_slash = refl

-- "Cap 0 as no limit": a cap of 0 takes objects of 0 bytes and no others
pub cap_zero_is_zero : history
    (begin ++ (ask (grant owner (volume 1) (scope [] (Bytes 0))) ∷ []) ++ put 0 1 a 1 ++ (on_slot 0 abandons ∷ []) ++ put 0 1 a 0)
    ≡ begun ++ ((0, 1) ∷ (0, 0) ∷ (0, 0) ∷ (10, 0) ∷ (0, 0) ∷ (0, 0) ∷ (0, 0) ∷ (0, 1) ∷ [])
unfolding history
cap_zero_is_zero = refl

-- "A token or volume number given again: an old session commits under a stranger." A revoked token's number is not given again
pub number_not_given_again : history
    (begin
    ++ (ask (grant owner (volume 1) (scope [] Unlimited)) ∷ on_slot 0 (opens (token 1)) ∷ on_slot 0 (stages a 1 hash)
    ∷ ask (revoke owner (token 1))
    ∷ ask (grant owner (volume 1) (scope [] Unlimited))
    ∷ on_slot 0 (stages b 1 hash)
    ∷ on_slot 0 commits
    ∷ []))
    ≡ begun ++ ((0, 1) ∷ (0, 0) ∷ (0, 0) ∷ (0, 0) ∷ (0, 2) ∷ (4, 0) ∷ (4, 0) ∷ [])
unfolding history
number_not_given_again = refl

-- "Checking rights at open and not again at commit": the window has closed, the volume was deleted
pub rights_at_commit : history
    (begin
    ++ (ask (grant owner (volume 1) (record { prefix = []; mode = Write; cap = Unlimited; «from» = 0; until = 10 }))
    ∷ ask (grant owner (volume 1) (scope [] Unlimited))
    ∷ on_slot 0 (opens (token 1))
    ∷ on_slot 1 (opens (token 2))
    ∷ ask (advance 11)
    ∷ on_slot 0 commits
    ∷ ask (delete owner (volume 1))
    ∷ on_slot 1 commits
    ∷ on_slot 2 (opens (token 2))
    ∷ []))
    ≡ begun ++ ((0, 1) ∷ (0, 2) ∷ (0, 0) ∷ (0, 0) ∷ (0, 11) ∷ (5, 0) ∷ (0, 0) ∷ (4, 0) ∷ (4, 0) ∷ [])
unfolding history
rights_at_commit = refl

-- two sessions of one volume: the second to commit finds another version
pub conflict : history
    (begin
    ++ (ask (grant owner (volume 1) (scope [] Unlimited)) ∷ on_slot 0 (opens (token 1)) ∷ on_slot 1 (opens (token 1))
    ∷ on_slot 0 commits
    ∷ on_slot 1 commits
    ∷ on_slot 1 abandons
    ∷ on_slot 1 abandons
    ∷ []))
    ≡ begun ++ ((0, 1) ∷ (0, 0) ∷ (0, 0) ∷ (0, 1) ∷ (9, 0) ∷ (0, 0) ∷ (19, 0) ∷ [])
unfolding history
conflict = refl

-- "Deleted at 100: undelete at 7,299 passes; advance to 7,300 collects."
abbrev deleted_at100 : List Call
deleted_at100 = ask (create owner a 2 1 Unlimited) ∷ ask (advance 100) ∷ ask (delete owner (volume 1)) ∷ ask (advance 3600) ∷ ask (advance 7299) ∷ []

pub undelete_at_7299 : history (deleted_at100 ++ (ask (undelete owner (volume 1)) ∷ ask (deposit (volume 1) 1) ∷ []))
    ≡ (0, 1) ∷ (0, 100) ∷ (0, 0) ∷ (0, 3600) ∷ (0, 7299) ∷ (0, 0) ∷ (0, 0) ∷ []
unfolding history
undelete_at_7299 = refl

pub collected_at_7300 : history
    (deleted_at100
    ++ (ask (deposit (volume 1) 1) ∷ ask (create owner a 2 1 Unlimited) ∷ ask (advance 7300) ∷ ask (undelete owner (volume 1))
    ∷ ask (create owner a 2 1 Unlimited)
    ∷ []))
    ≡ (0, 1) ∷ (0, 100) ∷ (0, 0) ∷ (0, 3600) ∷ (0, 7299) ∷ (8, 0) ∷ (25, 0) ∷ (0, 7300) ∷ (2, 0) ∷ (0, 2) ∷ []
unfolding history
collected_at_7300 = refl

-- 100 bytes in a volume with 1 coin, at 1 coin an epoch
abbrev one_coin : List Call
one_coin =
    ask (create owner a 2 1 Unlimited) ∷ ask (deposit (volume 1) 1) ∷ ask (register 1000) ∷ ask (register 1000)
    ∷ ask (register 1000)
    ∷ ask (grant owner (volume 1) (scope [] Unlimited))
    ∷ put 0 1 a 100
    ++ (ask (advance 3600) ∷ ask (advance 7200) ∷ on_slot 0 (opens (token 1)) ∷ ask (advance 10800) ∷ [])

abbrev one_coin_told : List (ℕ × ℕ)
one_coin_told =
    (0, 1) ∷ (0, 0) ∷ (0, 1) ∷ (0, 2) ∷ (0, 3) ∷ (0, 1) ∷ (0, 0) ∷ (0, 0) ∷ (0, 1) ∷ (0, 3600) ∷ (0, 7200) ∷ (8, 0)
    ∷ (0, 10800)
    ∷ []

-- paid at 3,600; short at 7,200, 10,800 and 14,400: "collected at 3"
pub grace_to_collection : history (one_coin ++ (ask (look (token 1) a) ∷ ask (advance 14400) ∷ ask (look (token 1) a) ∷ ask (deposit (volume 1) 1) ∷ []))
    ≡ one_coin_told ++ ((0, 100) ∷ (0, 14400) ∷ (4, 0) ∷ (2, 0) ∷ [])
unfolding history
grace_to_collection = refl

-- a deposit in GRACE_PERIOD leaves the status; the next epoch end pays and gives ACTIVE
pub grace_to_active : history
    (one_coin
    ++ (ask (deposit (volume 1) 1) ∷ on_slot 0 (opens (token 1)) ∷ ask (advance 14400) ∷ on_slot 0 (opens (token 1)) ∷ []))
    ≡ one_coin_told ++ ((0, 0) ∷ (8, 0) ∷ (0, 14400) ∷ (0, 0) ∷ [])
unfolding history
grace_to_active = refl

-- "Replaced objects give their room and held shards back only after all puts are placed": relays of 100 bytes, shards of 60, then of 40
abbrev tight_relays : List Call
tight_relays =
    ask (create owner a 2 1 Unlimited) ∷ ask (deposit (volume 1) 1000) ∷ ask (register 100) ∷ ask (register 100)
    ∷ ask (register 100)
    ∷ ask (grant owner (volume 1) (scope [] Unlimited))
    ∷ []

pub room_given_back_late : history (tight_relays ++ put 0 1 a 120 ++ put 0 1 a 82 ++ (on_slot 0 abandons ∷ []) ++ put 0 1 a 80 ++ put 0 1 a 120)
    ≡ begun
    ++ ((0, 1) ∷ (0, 0) ∷ (0, 0) ∷ (0, 1) ∷ (0, 0) ∷ (0, 0) ∷ (14, 0) ∷ (0, 0) ∷ (0, 0) ∷ (0, 0) ∷ (0, 2) ∷ (0, 0) ∷ (0, 0) ∷ (0, 3) ∷ [])
unfolding history
room_given_back_late = refl

-- "A commit with no puts is accepted if the checks pass."
pub commit_with_no_puts : history
    (begin ++ (ask (grant owner (volume 1) (scope [] Unlimited)) ∷ on_slot 3 (opens (token 1)) ∷ on_slot 3 commits ∷ on_slot 3 commits ∷ on_slot 4 commits ∷ []))
    ≡ begun ++ ((0, 1) ∷ (0, 0) ∷ (0, 1) ∷ (19, 0) ∷ (1, 0) ∷ [])
unfolding history
commit_with_no_puts = refl

-- paths of one byte, from this one on
abbrev stages_from : ℕ → ℕ → List Call
stages_from zero from = []
stages_from (suc n) from = on_slot 0 (stages (from ∷ []) 0 hash) ∷ stages_from n (suc from)

-- 12: "stage: 9th path"; a path that is staged already is not one
pub ninth_put : history
    (begin
    ++ (ask (grant owner (volume 1) (scope [] Unlimited)) ∷ on_slot 0 (opens (token 1)) ∷ [])
    ++ stages_from 9 97
    ++ stages_from 1 97)
    ≡ begun ++ ((0, 1) ∷ (0, 0) ∷ []) ++ replicate 8 (0, 0) ++ ((12, 0) ∷ (0, 0) ∷ [])
unfolding history
ninth_put = refl

-- eight puts and a commit
abbrev eight_from : ℕ → List Call
eight_from from = on_slot 0 (opens (token 1)) ∷ stages_from 8 from ++ (on_slot 0 commits ∷ [])

abbrev eight_told : ℕ → List (ℕ × ℕ)
eight_told version = (0, 0) ∷ replicate 8 (0, 0) ++ ((0, version) ∷ [])

-- 12: "commit: 65th entry"; a path that is in the volume already is not new
pub entry_65 : history
    (begin
    ++ (ask (grant owner (volume 1) (scope [] Unlimited)) ∷ [])
    ++ eight_from 48
    ++ eight_from 56
    ++ eight_from 64
    ++ eight_from 72
    ++ eight_from 80
    ++ eight_from 88
    ++ eight_from 96
    ++ eight_from 104
    ++ put 0 1 (112 ∷ []) 0
    ++ (on_slot 0 abandons ∷ [])
    ++ put 0 1 (111 ∷ []) 0)
    ≡ begun
    ++ ((0, 1) ∷ [])
    ++ eight_told 1
    ++ eight_told 2
    ++ eight_told 3
    ++ eight_told 4
    ++ eight_told 5
    ++ eight_told 6
    ++ eight_told 7
    ++ eight_told 8
    ++ ((0, 0) ∷ (0, 0) ∷ (12, 0) ∷ (0, 0) ∷ (0, 0) ∷ (0, 0) ∷ (0, 9) ∷ [])
unfolding history
entry_65 = refl

-- 18: "9th token in a chain"
abbrev narrower : ℕ → ℕ → List Call
narrower zero k = []
narrower (suc n) k = ask (attenuate (token k) (scope [] Unlimited)) ∷ narrower n (suc k)

pub ninth_token : history (begin ++ (ask (grant owner (volume 1) (scope [] Unlimited)) ∷ []) ++ narrower 8 1 ++ (ask (revoke owner (token 2)) ∷ ask (attenuate (token 8) (scope [] Unlimited)) ∷ ask (attenuate (token 1) (scope [] Unlimited)) ∷ []))
    ≡ begun ++ ((0, 1) ∷ (0, 2) ∷ (0, 3) ∷ (0, 4) ∷ (0, 5) ∷ (0, 6) ∷ (0, 7) ∷ (0, 8) ∷ (18, 0) ∷ (0, 0) ∷ (4, 0) ∷ (0, 9) ∷ [])
unfolding history
ninth_token = refl

-- 17: ""unlimited" only under "unlimited""; a wider mode, window or prefix
pub widening : history
    (begin
    ++ (ask (grant owner (volume 1) (record { prefix = job/; mode = Read; cap = Bytes 10; «from» = 5; until = 9 }))
    ∷ ask (attenuate (token 1) (record { prefix = job/; mode = Read; cap = Unlimited; «from» = 5; until = 9 }))
    ∷ ask (attenuate (token 1) (record { prefix = job/; mode = Both; cap = Bytes 10; «from» = 5; until = 9 }))
    ∷ ask (attenuate (token 1) (record { prefix = job/; mode = Read; cap = Bytes 11; «from» = 5; until = 9 }))
    ∷ ask (attenuate (token 1) (record { prefix = job/; mode = Read; cap = Bytes 10; «from» = 4; until = 9 }))
    ∷ ask (attenuate (token 1) (record { prefix = job/; mode = Read; cap = Bytes 10; «from» = 5; until = 10 }))
    ∷ ask (attenuate (token 1) (record { prefix = []; mode = Read; cap = Bytes 10; «from» = 5; until = 9 }))
    ∷ ask (attenuate (token 1) (record { prefix = job/; mode = Read; cap = Bytes 10; «from» = 5; until = 9 }))
    ∷ []))
    ≡ begun ++ ((0, 1) ∷ (17, 0) ∷ (17, 0) ∷ (17, 0) ∷ (17, 0) ∷ (17, 0) ∷ (17, 0) ∷ (0, 2) ∷ [])
unfolding history
widening = refl

-- "heartbeat at 1100: 26": relay 2, which registered at 1,000, has left; relay 1 beat again at 1,099 and is there
pub heartbeats : history
    (ask (advance 1000) ∷ ask (register 5) ∷ ask (register 5) ∷ ask (advance 1099) ∷ ask (heartbeat (relay 1)) ∷ ask (advance 1100)
    ∷ ask (heartbeat (relay 2))
    ∷ ask (advance 1198)
    ∷ ask (heartbeat (relay 1))
    ∷ ask (heartbeat (relay 0))
    ∷ ask (register 5)
    ∷ [])
    ≡ (0, 1000) ∷ (0, 1) ∷ (0, 2) ∷ (0, 1099) ∷ (0, 0) ∷ (0, 1100) ∷ (26, 0) ∷ (0, 1198) ∷ (0, 0) ∷ (26, 0) ∷ (0, 3) ∷ []
unfolding history
heartbeats = refl

-- "Advance 0 to 7,199 passes, 0 to 7,200 is 16."
pub two_epoch_ends : history (ask (advance 7200) ∷ ask (advance 7199) ∷ ask (advance 7198) ∷ ask (advance 7199) ∷ [])
    ≡ (16, 0) ∷ (0, 7199) ∷ (16, 0) ∷ (0, 7199) ∷ []
unfolding history
two_epoch_ends = refl

-- a desk with other tables
abbrev desk_of : Tables → Desk
desk_of t = record { tables = t; sessions = (fresh_desk 100).sessions }

-- 16: "above 2^40"; a desk whose clock is above it is answered 1
pub last_block : told (ask (advance 1099511627776) ∷ ask (advance 1099511627777) ∷ []) (desk_of (with_clock (fresh_tables 100) 1099511627770))
    ++ told (ask (register 5) ∷ []) (desk_of (with_clock (fresh_tables 100) 1099511627777))
    ≡ (0, 1099511627776) ∷ (16, 0) ∷ (1, 0) ∷ []
unfolding told
last_block = refl

-- 20, 25, and 1 for a name, K, M and a cap
pub volumes_refused : history
    (ask (create owner [] 2 1 Unlimited) ∷ ask (create owner a 1 1 Unlimited) ∷ ask (create owner a 2 9 Unlimited)
    ∷ ask (create owner a 2 1 (Bytes 68719476737))
    ∷ ask (create owner a 2 1 (Bytes 68719476736))
    ∷ ask (create owner a 16 8 Unlimited)
    ∷ ask (create owner b 16 8 Unlimited)
    ∷ ask (deposit (volume 1) 1000000000000001)
    ∷ ask (deposit (volume 1) 1000000000000000)
    ∷ ask (deposit (volume 1) 1)
    ∷ ask (deposit (volume 3) 1)
    ∷ [])
    ≡ (1, 0) ∷ (1, 0) ∷ (1, 0) ∷ (1, 0) ∷ (0, 1) ∷ (25, 0) ∷ (0, 2) ∷ (20, 0) ∷ (0, 0) ∷ (20, 0) ∷ (2, 0) ∷ []
unfolding history
volumes_refused = refl

abbrev stranger : Account
stranger = record { 0 = replicate 32 2 }

-- 3: only the owner deletes, undeletes, grants, revokes and removes
pub owners_only : history
    (begin ++ (ask (grant owner (volume 1) (scope [] Unlimited)) ∷ []) ++ put 0 1 a 1
    ++ (ask (grant stranger (volume 1) (scope [] Unlimited)) ∷ ask (revoke stranger (token 1)) ∷ ask (remove stranger (volume 1) a)
    ∷ ask (delete stranger (volume 1))
    ∷ ask (undelete stranger (volume 1))
    ∷ ask (undelete owner (volume 1))
    ∷ []))
    ≡ begun ++ ((0, 1) ∷ (0, 0) ∷ (0, 0) ∷ (0, 1) ∷ (3, 0) ∷ (3, 0) ∷ (3, 0) ∷ (3, 0) ∷ (3, 0) ∷ (8, 0) ∷ [])
unfolding history
owners_only = refl

-- a scope of this mode
abbrev scope_of : Mode → ScopeArg
scope_of mode = record { prefix = []; mode = mode; cap = Unlimited; «from» = 0; until = 1000000 }

-- 6: "open without write, look without read"
pub modes : history
    (begin
    ++ (ask (grant owner (volume 1) (scope_of Read)) ∷ ask (grant owner (volume 1) (scope_of Write)) ∷ on_slot 0 (opens (token 1))
    ∷ ask (look (token 1) a)
    ∷ on_slot 0 (opens (token 2))
    ∷ ask (look (token 2) a)
    ∷ on_slot 0 (opens (token 2))
    ∷ []))
    ≡ begun ++ ((0, 1) ∷ (0, 2) ∷ (6, 0) ∷ (15, 0) ∷ (0, 0) ∷ (6, 0) ∷ (19, 0) ∷ [])
unfolding history
modes = refl

-- 11: "volume's raw bytes would pass its cap", replaced entries out
pub volume_cap : history
    (ask (create owner a 2 1 (Bytes 100)) ∷ ask (deposit (volume 1) 1000) ∷ ask (register 1000) ∷ ask (register 1000)
    ∷ ask (register 1000)
    ∷ ask (grant owner (volume 1) (scope [] Unlimited))
    ∷ put 0 1 a 101
    ++ (on_slot 0 abandons ∷ [])
    ++ put 0 1 a 100
    ++ put 0 1 a 99
    ++ put 0 1 b 2)
    ≡ begun
    ++ ((0, 1) ∷ (0, 0) ∷ (0, 0) ∷ (11, 0) ∷ (0, 0) ∷ (0, 0) ∷ (0, 0) ∷ (0, 1) ∷ (0, 0) ∷ (0, 0) ∷ (0, 2) ∷ (0, 0) ∷ (0, 0) ∷ (11, 0) ∷ [])
unfolding history
volume_cap = refl

-- 13: "balance below one epoch's rent of the new content"; equal passes, and an object of 0 bytes costs nothing
pub rent_at_commit : history
    (ask (create owner a 2 1 Unlimited) ∷ ask (deposit (volume 1) 0) ∷ ask (register 1000) ∷ ask (register 1000)
    ∷ ask (register 1000)
    ∷ ask (grant owner (volume 1) (scope [] Unlimited))
    ∷ put 0 1 a 1
    ++ (ask (deposit (volume 1) 1) ∷ on_slot 0 commits ∷ [])
    ++ put 0 1 b 0)
    ≡ begun ++ ((0, 1) ∷ (0, 0) ∷ (0, 0) ∷ (13, 0) ∷ (0, 0) ∷ (0, 1) ∷ (0, 0) ∷ (0, 0) ∷ (0, 2) ∷ [])
unfolding history
rent_at_commit = refl

-- a session whose volume was deleted is refused with 4, and with 2 once the volume is collected; undelete brings no token back
pub session_of_a_lost_volume : history
    (ask (create owner a 2 1 Unlimited) ∷ ask (grant owner (volume 1) (scope [] Unlimited)) ∷ on_slot 0 (opens (token 1))
    ∷ ask (delete owner (volume 1))
    ∷ ask (undelete owner (volume 1))
    ∷ ask (look (token 1) a)
    ∷ ask (delete owner (volume 1))
    ∷ on_slot 0 commits
    ∷ ask (advance 3600)
    ∷ ask (advance 7200)
    ∷ on_slot 0 commits
    ∷ ask (create owner a 2 1 Unlimited)
    ∷ on_slot 0 commits
    ∷ [])
    ≡ (0, 1) ∷ (0, 1) ∷ (0, 0) ∷ (0, 0) ∷ (0, 0) ∷ (4, 0) ∷ (0, 0) ∷ (4, 0) ∷ (0, 3600) ∷ (0, 7200) ∷ (2, 0) ∷ (0, 2) ∷ (2, 0) ∷ []
unfolding history
session_of_a_lost_volume = refl

-- one call made again and again
abbrev again : ℕ → Call → List Call
again zero c = []
again (suc n) c = c ∷ again n c

abbrev creates_from : ℕ → ℕ → List Call
creates_from zero from = []
creates_from (suc n) from = ask (create owner (from ∷ []) 2 1 Unlimited) ∷ creates_from n (suc from)

-- the numbers from this one on
abbrev counted_from : ℕ → ℕ → List (ℕ × ℕ)
counted_from zero from = []
counted_from (suc n) from = (0, from) ∷ counted_from n (suc from)

-- 12: "create, grant, attenuate, register: no free row"
pub no_free_row : history
    (creates_from 9 97 ++ again 33 (ask (register 5)) ++ again 33 (ask (grant owner (volume 1) (scope [] Unlimited)))
    ++ (ask (attenuate (token 1) (scope [] Unlimited)) ∷ []))
    ≡ counted_from 8 1 ++ ((12, 0) ∷ []) ++ counted_from 32 1 ++ ((12, 0) ∷ []) ++ counted_from 32 1 ++ ((12, 0) ∷ (12, 0) ∷ [])
unfolding history
no_free_row = refl

-- 21: "the number or version has reached its end"
pub spent : told (ask (create owner a 2 1 Unlimited) ∷ []) (desk_of (with_last_volume (fresh_tables 100) 65535))
    ++ told (ask (register 5) ∷ []) (desk_of (with_last_relay (fresh_tables 100) 65535))
    ++ told (ask (create owner a 2 1 Unlimited) ∷ ask (grant owner (volume 1) (scope [] Unlimited)) ∷ ask (grant owner (volume 1) (scope [] Unlimited)) ∷ []) (desk_of (with_last_token (fresh_tables 100) 65534))
    ++ told
    (ask (grant owner (volume 1) (scope [] Unlimited)) ∷ on_slot 0 (opens (token 1)) ∷ on_slot 0 commits ∷ on_slot 0 abandons
    ∷ on_slot 0 (opens (token 1))
    ∷ on_slot 0 commits
    ∷ [])
    (desk_of
    (with_last_volume
    (with_volumes (fresh_tables 100) (with_version (new_volume 1 owner a 2 1 Unlimited) 4294967294 ∷ replicate 7 fresh_volume))
    1))
    ≡ (21, 0) ∷ (21, 0) ∷ (0, 1) ∷ (0, 65535) ∷ (21, 0) ∷ (0, 1) ∷ (0, 0) ∷ (0, 4294967295) ∷ (19, 0) ∷ (0, 0) ∷ (21, 0) ∷ []
unfolding told
spent = refl
