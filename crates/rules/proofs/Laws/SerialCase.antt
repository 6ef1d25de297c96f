-- Demand 3 on one mixed list, by computation: two sessions side by side, of which the second to commit meets a conflict, is abandoned and opened
-- again, a refused stage and a session that is never committed. Assumes nothing.
use Rattle.std.specs.Prelude.{◌≡◌, refl, List, [], ◌∷◌, ◌++◌, map, ℕ}
use Rattle.std.proofs.Math.Decide.{ℕ_discrete}
use Rattle.amount.specs.declared.Cap.TheVariants.{Unlimited}
use Rattle.lists.specs.Lists.{first_row, count_if, sum_of, total, no_clash, bit_set}
use Rattle.text.specs.Text.{onto_first, parts, is_part, is_path, is_path_and_slash, is_prefix, is_name}
use Rattle.serial.specs.Second.{choose, grown, placed, session, second_after, second, events, calls}
use Rattle.std.specs.Int.Count.{ones}
use Rattle.rules.specs.declared.Mode.TheVariants.{Both}
use Rattle.rules.specs.declared.Answer.{Answer}
use Rattle.rules.specs.Fresh.{fresh_account, fresh_hash, fresh_desk}
use Rattle.rules.specs.Tables.{is_entry, is_put, owned_by, volume_of, token_of, entry_of}
use Rattle.rules.specs.Scope.{scope_fits, chain}
use Rattle.rules.specs.Relays.{too_few, in_order, ranked, taken, holds_shard, loaded, shard_bytes, bytes_on, shards_on, lightened, eligible_set}
use Rattle.rules.specs.Rent.{effective, rent_for}
use Rattle.rules.specs.Outcome.{is_accepted}
use Rattle.rules.specs.Sound.{sound_volume, same_name, sound_placement, sound_in, sound_entry, same_entry, volume_there, parent_there, sound_token, sound_relay, sound_put, same_path, sound_session, sound_volumes, sound_entries, sound_tokens, sound_relays, sound_tables, sound}
use Rattle.rules.specs.VolumeCalls.{has_name, create_in, create_rule, deposit_in, deposit_rule}
use Rattle.rules.specs.TokenCalls.{token_in, new_token, grant_in, grant_rule, look_entry, look_in, look_rule}
use Rattle.rules.specs.RelayCalls.{register_in, register_rule}
use Rattle.rules.specs.SessionCalls.{open_volume, open_token, open_rule, stage_put, stage_token, stage_rule, abandon_rule}
use Rattle.rules.specs.Commit.{is_replaced, is_kept, sizes_after, is_new_path, passes_quotas, passes_size, passes_room, below_rent, place_all, store_new, store_at, store_all, charged, committed, commit_placed, commit_limits, commit_token, commit_volume, commit_rule}
use Rattle.rules.specs.Calls.{create, deposit, grant, look, register, ask_rule, opens, stages, commits, abandons, work_rule, Call, ask, on_slot, rule, step}
use Rattle.rules.specs.Serial.{role, step_of}

-- volume 1 of 2+1 shards with 1,000 coins, relays 1 to 3, and token 1 for all of the volume
abbrev begin : List Call
begin =
    ask (create fresh_account (97 ∷ []) 2 1 Unlimited) ∷ ask (deposit (record { 0 = 1 }) 1000) ∷ ask (register 1000000) ∷ ask (register 1000000)
    ∷ ask (register 1000000)
    ∷ ask (grant fresh_account (record { 0 = 1 }) (record { prefix = []; mode = Both; cap = Unlimited; «from» = 0; until = 1000 }))
    ∷ []

abbrev open_at : ℕ → Call
open_at slot = on_slot slot (opens (record { 0 = 1 }))

-- an object of so many bytes, at the path that this byte is
abbrev stage_at : ℕ → ℕ → ℕ → Call
stage_at slot byte size = on_slot slot (stages (byte ∷ []) size fresh_hash)

abbrev look_at : ℕ → Call
look_at byte = ask (look (record { 0 = 1 }) (byte ∷ []))

abbrev first : List Call
first =
    begin
    ++ (open_at 0 ∷ open_at 2 ∷ stage_at 2 98 20 ∷ stage_at 1 98 5 ∷ stage_at 0 97 10 ∷ on_slot 2 commits ∷ look_at 98 ∷ on_slot 0 commits ∷ on_slot 0 abandons
    ∷ open_at 0
    ∷ stage_at 0 97 11
    ∷ look_at 97
    ∷ stage_at 0 97 12
    ∷ on_slot 0 commits
    ∷ look_at 97
    ∷ open_at 3
    ∷ [])

-- a call's answer, as number and value
abbrev told : Call × Answer → ℕ × ℕ
told e = (e.1.number, e.1.value)

-- a list of calls from a fresh desk, each with its answer
unfoldable happens : List Call → List (Call × Answer)
unfolding events step rule ask_rule work_rule sound sound_tables sound_relays sound_tokens sound_entries sound_volumes sound_session same_path sound_put sound_relay sound_token parent_there volume_there same_entry sound_entry sound_in sound_placement same_name sound_volume first_row count_if sum_of total no_clash onto_first parts is_part is_path is_path_and_slash is_prefix is_name is_entry is_put owned_by volume_of token_of entry_of scope_fits chain too_few eligible_set bit_set ones in_order ranked taken holds_shard loaded shard_bytes bytes_on shards_on lightened effective rent_for has_name create_in create_rule deposit_in deposit_rule token_in new_token grant_in grant_rule look_entry look_in look_rule register_in register_rule open_volume open_token open_rule stage_put stage_token stage_rule abandon_rule is_replaced is_kept sizes_after is_new_path passes_quotas passes_size passes_room below_rent place_all store_new store_at store_all charged committed commit_placed commit_limits commit_token commit_volume commit_rule
happens cs = events step_of cs (fresh_desk 100)

-- the answers of the first list: 19 for the stage on an idle slot, 9 for the commit after another's, 15 for the look before the second commit
answers_first : map told (happens first)
    ≡ (0, 1) ∷ (0, 0) ∷ (0, 1) ∷ (0, 2) ∷ (0, 3) ∷ (0, 1) ∷ (0, 0) ∷ (0, 0) ∷ (0, 0) ∷ (19, 0) ∷ (0, 0) ∷ (0, 1) ∷ (0, 20) ∷ (9, 0) ∷ (0, 0) ∷ (0, 0) ∷ (0, 0)
    ∷ (15, 0)
    ∷ (0, 0)
    ∷ (0, 2)
    ∷ (0, 12)
    ∷ (0, 0)
    ∷ []
unfolding happens
answers_first = refl

-- the second list
abbrev kept : List Call
kept =
    begin
    ++ (open_at 2 ∷ stage_at 2 98 20 ∷ on_slot 2 commits ∷ look_at 98 ∷ look_at 97 ∷ open_at 0 ∷ stage_at 0 97 11 ∷ stage_at 0 97 12 ∷ on_slot 0 commits
    ∷ look_at 97
    ∷ [])

second_list : calls (second role is_accepted (happens first)) ≡ kept
unfolding happens second second_after session placed grown choose ℕ_discrete
second_list = refl

-- its answers
answers_second : map told (happens kept)
    ≡ (0, 1) ∷ (0, 0) ∷ (0, 1) ∷ (0, 2) ∷ (0, 3) ∷ (0, 1) ∷ (0, 0) ∷ (0, 0) ∷ (0, 1) ∷ (0, 20) ∷ (15, 0) ∷ (0, 0) ∷ (0, 0) ∷ (0, 0) ∷ (0, 2) ∷ (0, 12) ∷ []
unfolding happens
answers_second = refl
