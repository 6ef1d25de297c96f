-- The answers of calls are small: a number has at most two digits, and a value fits 64 bits. The numbers go by the checks of each rule, the values
-- by what an accepted call found. Assumes nothing.
use Rattle.std.specs.Prelude.{◌≡◌, Bool, true, false, cond, List, ℕ, ◌^◌, ◌<◌, eqb, ltb, leb, get_or}
use Rattle.std.proofs.Common.{arith, ltb-false, leb-true, leb-false, eqb-true}
use Rattle.std.proofs.Math.Dec.{lit<}
use Rattle.lists.specs.Lists.{Hit, hit, miss}
use Rattle.lists.specs.Bytes.{same_bytes}
use Rattle.lists.specs.BoolLaws.{and_left, and_right, or_left, or_right}
use Rattle.lists.specs.SearchLaws.{row_passes, found_below, found_at}
use Rattle.lists.specs.TestLaws.{all_at}
use Rattle.text.specs.Text.{text_bytes}
use Rattle.rules.specs.declared.Account.{Account}
use Rattle.rules.specs.declared.Answer.{Answer}
use Rattle.rules.specs.declared.Volume.{Volume}
use Rattle.rules.specs.declared.Entry.{Entry}
use Rattle.rules.specs.declared.Token.{Token}
use Rattle.rules.specs.declared.Relay.{Relay}
use Rattle.rules.specs.declared.Put.{Put}
use Rattle.rules.specs.declared.Hash.{Hash}
use Rattle.rules.specs.declared.Session.{Session}
use Rattle.rules.specs.declared.Tables.{Tables}
use Rattle.rules.specs.declared.VolumeNo.{VolumeNo}
use Rattle.rules.specs.declared.TokenNo.{TokenNo}
use Rattle.rules.specs.declared.Scope.{Scope}
use Rattle.rules.specs.declared.TablesOutcome.{TablesOutcome}
use Rattle.rules.specs.declared.SlotOutcome.{SlotOutcome}
use Rattle.rules.specs.declared.Desk.{Desk}
use Rattle.rules.specs.declared.Outcome.{Outcome}
use Rattle.rules.specs.Limits.{slot_rows, size_limit, clock_limit, last_number, last_version}
use Rattle.rules.specs.Numbers.{BAD}
use Rattle.rules.specs.Fresh.{fresh_entry, fresh_session}
use Rattle.rules.specs.Outcome.{desk_refused}
use Rattle.rules.specs.Rent.{epoch_ends}
use Rattle.rules.specs.Sound.{sound_entry, sound}
use Rattle.rules.proofs.Laws.SoundParts.{Parts, tables_sound}
use Rattle.rules.proofs.Laws.RowFacts.{entry_facts}
use Rattle.rules.proofs.Laws.AskCases.{Effect, advances, creates, deposits, deletes, undeletes, grants, attenuates, revokes, removes, looks, registers, beats, Does, refuses, takes, ask_cases}
use Rattle.rules.proofs.Laws.WorkCases.{WorkEffect, opening, restaging, staging, committing, abandoning, WorkDoes, refuses as declines, takes as performs, work_cases}
use Rattle.rules.specs.Scope.{ScopeArg}
use Rattle.rules.specs.Tables.{used_entry, in_volume, is_entry, volume_of, token_of, relay_of, entry_of}
use Rattle.rules.specs.VolumeCalls.{create_in, create_rule, deposit_in, deposit_rule, delete_in, delete_rule, undelete_in, undelete_rule, remove_entry, remove_in, remove_rule}
use Rattle.rules.specs.TokenCalls.{token_in, new_token, grant_in, grant_rule, attenuate_in, attenuate_rule, revoke_owner, revoke_in, revoke_rule, look_entry, look_in, look_rule}
use Rattle.rules.specs.RelayCalls.{register_in, register_rule, heartbeat_in, heartbeat_rule}
use Rattle.rules.specs.Advance.{advance_rule}
use Rattle.rules.specs.SessionCalls.{open_volume, open_token, open_rule, stage_put, stage_token, stage_rule, abandon_rule}
use Rattle.rules.specs.Commit.{Placed, no_place, placed, commit_placed, commit_limits, commit_token, commit_volume, commit_rule}
use Rattle.rules.specs.Calls.{Ask, advance, create, deposit, delete, undelete, grant, attenuate, revoke, remove, look, register, heartbeat, ask_rule, Work, opens, stages, commits, abandons, work_rule, Call, ask, on_slot, rule}

-- an answer's number has at most two digits
abbrev Low : Answer → Type 0
Low a = a.number < 100

-- a check: both ways
either : (b : Bool) (x y : TablesOutcome) → Low x.answer → Low y.answer → Low (cond b x y).answer
either true x y p q = p
either false x y p q = q

either_slot : (b : Bool) (x y : SlotOutcome) → Low x.answer → Low y.answer → Low (cond b x y).answer
either_slot true x y p q = p
either_slot false x y p q = q

-- the calls on the tables, from the last level of each on
module _ (t : Tables) where
  low_create : (v : Volume) (h : Hit Volume) → Low (create_in t v h).answer
  unfolding create_in
  low_create v miss = lit< tt
  low_create v (hit i old) = lit< tt

  low_deposit : (coins : ℕ) (h : Hit Volume) → Low (deposit_in t coins h).answer
  unfolding deposit_in
  low_deposit coins miss = lit< tt
  low_deposit coins (hit i v) = search (either, lit<)

  low_delete : (a : Account) (h : Hit Volume) → Low (delete_in t a h).answer
  unfolding delete_in
  low_delete a miss = lit< tt
  low_delete a (hit i v) = search (either, lit<)

  low_undelete : (a : Account) (h : Hit Volume) → Low (undelete_in t a h).answer
  unfolding undelete_in
  low_undelete a miss = lit< tt
  low_undelete a (hit i v) = search (either, lit<)

  low_entry : (path : List ℕ) (i : ℕ) (v : Volume) (h : Hit Entry) → Low (remove_entry t path i v h).answer
  unfolding remove_entry
  low_entry path i v miss = lit< tt
  low_entry path i v (hit j e) = search (either, lit<)

  low_remove : (a : Account) (path : List ℕ) (h : Hit Volume) → Low (remove_in t a path h).answer
  unfolding remove_in
  low_remove a path miss = lit< tt
  low_remove a path (hit i v) = search (either, low_entry, lit<)

  low_row : (k : Token) (h : Hit Token) → Low (token_in t k h).answer
  unfolding token_in
  low_row k miss = lit< tt
  low_row k (hit i old) = lit< tt

  low_token : (v : VolumeNo) (parent : TokenNo) (s : Scope) → Low (new_token t v parent s).answer
  unfolding new_token
  low_token v parent s = search (either, low_row, lit<)

  low_grant : (a : Account) (s : ScopeArg) (h : Hit Volume) → Low (grant_in t a s h).answer
  unfolding grant_in
  low_grant a s miss = lit< tt
  low_grant a s (hit i v) = search (either, low_token, lit<)

  low_attenuate : (s : ScopeArg) (h : Hit Token) → Low (attenuate_in t s h).answer
  unfolding attenuate_in
  low_attenuate s miss = lit< tt
  low_attenuate s (hit i k) = search (either, low_token, lit<)

  low_owner : (a : Account) (k : Token) (h : Hit Volume) → Low (revoke_owner t a k h).answer
  unfolding revoke_owner
  low_owner a k miss = lit< tt
  low_owner a k (hit i v) = search (either, lit<)

  low_revoke : (a : Account) (h : Hit Token) → Low (revoke_in t a h).answer
  unfolding revoke_in
  low_revoke a miss = lit< tt
  low_revoke a (hit i k) = low_owner a k (volume_of k.volume t)

  low_size : (h : Hit Entry) → Low (look_entry t h).answer
  unfolding look_entry
  low_size miss = lit< tt
  low_size (hit i e) = lit< tt

  low_look : (path : List ℕ) (h : Hit Token) → Low (look_in t path h).answer
  unfolding look_in
  low_look path miss = lit< tt
  low_look path (hit i k) = search (either, low_size, lit<)

  low_register : (r : Relay) (h : Hit Relay) → Low (register_in t r h).answer
  unfolding register_in
  low_register r miss = lit< tt
  low_register r (hit i old) = lit< tt

  low_beat : (h : Hit Relay) → Low (heartbeat_in t h).answer
  unfolding heartbeat_in
  low_beat miss = lit< tt
  low_beat (hit i r) = search (either, lit<)

  pub low_ask : (a : Ask) → Low (ask_rule a t).answer
  unfolding ask_rule advance_rule create_rule deposit_rule delete_rule undelete_rule grant_rule attenuate_rule revoke_rule remove_rule look_rule register_rule heartbeat_rule
  low_ask (advance block) = search (either, lit<)
  low_ask (create a name k m cap) = search (either, low_create, lit<)
  low_ask (deposit n coins) = low_deposit coins (volume_of n t)
  low_ask (delete a n) = low_delete a (volume_of n t)
  low_ask (undelete a n) = low_undelete a (volume_of n t)
  low_ask (grant a n s) = search (either, low_grant, lit<)
  low_ask (attenuate n s) = search (either, low_attenuate, lit<)
  low_ask (revoke a n) = low_revoke a (token_of n t)
  low_ask (remove a n path) = search (either, low_remove, lit<)
  low_ask (look n path) = search (either, low_look, lit<)
  low_ask (register capacity) = search (either, low_register, lit<)
  low_ask (heartbeat n) = low_beat (relay_of n t)

-- the calls on a slot
module _ (t : Tables) (s : Session) where
  low_open_volume : (n : TokenNo) (h : Hit Volume) → Low (open_volume t s n h).answer
  unfolding open_volume
  low_open_volume n miss = lit< tt
  low_open_volume n (hit i v) = search (either_slot, lit<)

  low_open : (h : Hit Token) → Low (open_token t s h).answer
  unfolding open_token
  low_open miss = lit< tt
  low_open (hit i k) = search (either_slot, low_open_volume, lit<)

  low_put : (p : Put) (h : Hit Put) → Low (stage_put t s p h).answer
  unfolding stage_put
  low_put p miss = search (either_slot, lit<)
  low_put p (hit j old) = lit< tt

  low_stage : (path : List ℕ) (size : ℕ) (x : Hash) (h : Hit Token) → Low (stage_token t s path size x h).answer
  unfolding stage_token
  low_stage path size x miss = lit< tt
  low_stage path size x (hit i k) = search (either_slot, low_put, lit<)

  low_placed : (i : ℕ) (v : Volume) (k : Token) (p : Placed) → Low (commit_placed t s i v k p).answer
  unfolding commit_placed
  low_placed i v k no_place = lit< tt
  low_placed i v k (placed places rs) = lit< tt

  low_limits : (i : ℕ) (v : Volume) (k : Token) → Low (commit_limits t s i v k).answer
  unfolding commit_limits
  low_limits i v k = search (either_slot, low_placed, lit<) depth 8

  low_commit_token : (i : ℕ) (v : Volume) (h : Hit Token) → Low (commit_token t s i v h).answer
  unfolding commit_token
  low_commit_token i v miss = lit< tt
  low_commit_token i v (hit j k) = search (either_slot, low_limits, lit<) depth 8

  low_commit : (h : Hit Volume) → Low (commit_volume t s h).answer
  unfolding commit_volume
  low_commit miss = lit< tt
  low_commit (hit i v) = low_commit_token i v (token_of s.token t)

  pub low_work : (w : Work) → Low (work_rule w t s).answer
  unfolding work_rule open_rule stage_rule commit_rule abandon_rule
  low_work (opens n) = search (either_slot, low_open, lit<)
  low_work (stages path size x) = search (either_slot, low_stage, lit<)
  low_work commits = search (either_slot, low_commit, lit<)
  low_work abandons = search (either_slot, lit<)

-- a value fits 64 bits
abbrev Fitting : Answer → Type 0
Fitting a = a.value < 2 ^ 64

-- what is looked at is an entry of the table
looked_size : (t : Tables) → Parts t → (n : VolumeNo) (path : List ℕ) (j : ℕ) (e : Entry) → entry_of n path t ≡ hit j e → e.size < 2 ^ 64
unfolding entry_of is_entry
looked_size t p n path j e f =
    let named : in_volume n e ≡ true = and_left (in_volume n e) (same_bytes (text_bytes e.path) path) (row_passes (is_entry n path) t.entries 0 j e f) in
    let same : e.volume.0 ≡ n.0 = eqb-true e.volume.0 n.0 (and_right (ltb 0 n.0) (eqb e.volume.0 n.0) named) in
    let used : used_entry e ≡ true = rw same (and_left (ltb 0 n.0) (eqb e.volume.0 n.0) named) in
    let whole : sound_entry t e ≡ true =
    rw (found_at (is_entry n path) t.entries j e f fresh_entry) at (all_at (sound_entry t) t.entries p.entries j (found_below (is_entry n path) t.entries j e f) fresh_entry) in
    omega (arith, leb-true e.size size_limit (entry_facts t e used whole).size)

effect_fits : (t : Tables) → Parts t → {a : Ask} {x : Answer} {u : Tables} → Effect t a x u → Fitting x
effect_fits t p (advances block b) =
    let c = or_right (ltb block t.clock) (ltb clock_limit block) (or_left _ (leb 2 (epoch_ends t.clock block)) b) in
    omega (arith, ltb-false clock_limit block c)
effect_fits t p (creates a name k m cap i old f g r e) = omega (arith, leb-false last_number t.last_volume r)
effect_fits t p (deposits n coins i v e f g) = lit< tt
effect_fits t p (deletes a n i v e f g) = lit< tt
effect_fits t p (undeletes a n i v e f g) = lit< tt
effect_fits t p (grants a n s i v j old f e g h r z) = omega (arith, leb-false last_number t.last_token r)
effect_fits t p (attenuates n s i k j old f e g h r z) = omega (arith, leb-false last_number t.last_token r)
effect_fits t p (revokes a n i k j v e f g) = lit< tt
effect_fits t p (removes a n path i v j e f g h r z w) = omega (arith, leb-false last_version v.version w)
effect_fits t p (looks n path i k j e f g h r z w) = looked_size t p k.volume path j e w
effect_fits t p (registers capacity i old f r e) = omega (arith, leb-false last_number t.last_relay r)
effect_fits t p (beats n i r e f) = lit< tt

ask_fits : (a : Ask) (t : Tables) → Parts t → Fitting (ask_rule a t).answer
ask_fits a t p = go (ask_cases t a)
  where
    go : {o : TablesOutcome} → Does t a o → Fitting o.answer
    go (refuses n e) = lit< tt
    go (takes x u y e) = effect_fits t p e

work_fits : (w : Work) (t : Tables) (s : Session) → Fitting (work_rule w t s).answer
work_fits w t s = go (work_cases t s w)
  where
    effect : {w₁ : Work} {x : Answer} {u : Tables} {r : Session} → WorkEffect t s w₁ x u r → Fitting x
    effect (opening n i k j v b e q r g z) = lit< tt
    effect (restaging path size x i k j old b q e r g) = lit< tt
    effect (staging path size x i k b q e r g z) = lit< tt
    effect (committing a) = omega (arith, leb-false last_version a.volume.version a.not_spent)
    effect (abandoning b) = lit< tt

    go : {o : SlotOutcome} → WorkDoes t s w o → Fitting o.answer
    go (declines n e) = lit< tt
    go (performs x u r y e) = effect e

-- every call on a sound desk
pub record Small (a : Answer) : Type 0 where
  pub number : a.number < 100
  pub value : a.value < 2 ^ 64

either_desk : (b : Bool) (x y : Outcome) → Small x.answer → Small y.answer → Small (cond b x y).answer
either_desk true x y p q = p
either_desk false x y p q = q

pub small_answer : (c : Call) (d : Desk) → sound d ≡ true → Small (rule c d).answer
unfolding rule
small_answer (ask a) d h = record { number = low_ask d.tables a; value = ask_fits a d.tables (tables_sound d h) }
small_answer (on_slot j w) d h =
    either_desk (leb slot_rows j) (desk_refused d BAD) _ (record { number = lit< tt; value = lit< tt })
    (record { number = low_work d.tables (get_or d.sessions j fresh_session) w; value = work_fits w d.tables (get_or d.sessions j fresh_session) })
