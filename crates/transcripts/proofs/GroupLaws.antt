-- What each arm of a replay leaves is what the call of its record leaves. r is the record, l its bytes and g its group, which the arm names; x is what
-- the arm's function said of the tables, and t', slots' and a are the tables, the slots and the answer after the arm. Assumes nothing.
use mathlib.Core.Path.{◌≡◌, refl, sym, ◌∙◌, ap}
use mathlib.Core.Bool.{Bool, true, false}
use mathlib.Core.List.{List}
use Prim.Native.Nat.{ℕ, ◌*◌, ◌^◌, ◌<◌}
use native.Mathlib.Nat.{mul-le-mul_right}
use native.Mathlib.Omega.{arith}
use mir.Val.{Fits}
use mir.Syntax.{w64}
use borrow.Author.Tests.{lt-leb, ltb-true}
use lib.Dec.{ltb}
use lib.ListN.{get_or, set}
use Rattle.lists.specs.TestLaws.{all_at}
use Rattle.rules.specs.declared.Answer.{Answer}
use Rattle.rules.specs.declared.Session.{Session}
use Rattle.rules.specs.declared.Tables.{Tables}
use Rattle.rules.specs.declared.Desk.{Desk}
use Rattle.rules.specs.declared.TablesOutcome.{TablesOutcome}
use Rattle.rules.specs.declared.SlotOutcome.{SlotOutcome}
use Rattle.rules.specs.declared.Outcome.{Outcome}
use Rattle.rules.specs.Limits.{slot_rows}
use Rattle.rules.specs.Numbers.{BAD}
use Rattle.rules.specs.Fresh.{fresh_session}
use Rattle.rules.specs.Outcome.{refusal, on_tables}
use Rattle.rules.specs.Sound.{sound_tables, sound_session}
use Rattle.rules.proofs.Laws.SoundParts.{of_parts, tables_sound, slots_sound}
use Rattle.rules.proofs.Laws.StaysSound.{DeskInvariant}
use Rattle.rules.specs.Calls.{Ask, ask_rule, Work, commits, work_rule, ask, on_slot, with_slot, rule}
use Rattle.rules.specs.Advance.{is_due, collect}
use Rattle.rules.specs.Tables.{with_relays, with_last_relay}
use Rattle.relays.specs.declared.RelayChange.{RelayChange}
use Rattle.relays.specs.Rows.{on_row}
use Rattle.epochs.specs.Parts.{collected}
use Rattle.epochs.specs.Within.{advance_within, pass_within, due_within}
use Rattle.epochs.specs.PassLaws.{advance_parts}
use Rattle.epochs.specs.WithinLaws.{advance_sound}
use Rattle.commits.specs.Parts.{on_commit}
use Rattle.commits.specs.Within.{commit_within}
use Rattle.commits.specs.WithinLaws.{commit_sound}
use Rattle.journal.specs.declared.Record.{Record}
use Rattle.journal.specs.declared.Version.{Version}
use Rattle.journal.specs.Records.{v01}
use Rattle.journal.specs.Places.{call_at}
use Rattle.journal_calls.specs.declared.RelayCall.{RelayCall}
use Rattle.journal_calls.specs.declared.VolumeCall.{VolumeCall}
use Rattle.journal_calls.specs.declared.TokenCall.{TokenCall}
use Rattle.journal_calls.specs.declared.SlotCall.{SlotCall}
use Rattle.journal_calls.specs.declared.Group.{Group}
use Rattle.journal_calls.specs.declared.Group.TheVariants as group
use Rattle.journal_calls.specs.declared.Item.{Item}
use Rattle.journal_calls.specs.Groups.{group_of, relay_ask, volume_ask, token_ask, look_ask, delete_ask, remove_ask, slot_work, call_in, is_record, StandsAt}
use Rattle.journal_calls.specs.ItemLaws.{call_in_group, slot_there, no_slot_refused, item_named}
use Rattle.journal_calls.specs.Parts.{Asked, RelayDone}
use Rattle.rules.specs.declared.Relay.{Relay}
use Rattle.epochs.specs.declared.PassOutcome.{PassOutcome}
use Rattle.epochs.specs.Parts.{on_pass}
use Rattle.volumes.specs.declared.VolumesOutcome.{VolumesOutcome}
use Rattle.volumes.specs.Parts.{on_volumes}
use Rattle.tokens.specs.Parts.{unchanged}
use Rattle.kept.specs.declared.KeptSession.{KeptSession}
use Rattle.kept.specs.Kept.{session_in, slots_in}
use Rattle.kept_tokens.specs.declared.KeptTokens.{KeptTokens}
use Rattle.kept_tokens.specs.Calls.{on_kept_tokens}
use Rattle.kept_sessions.specs.declared.KeptOutcome.{KeptOutcome}
use Rattle.kept_sessions.specs.Parts.{on_kept_session}
use Rattle.kept_sessions.specs.PartLaws.{map_set}
use Rattle.kept_calls.specs.declared.KeptDelete.{KeptDelete}
use Rattle.kept_calls.specs.Parts.{on_kept_delete}
use Rattle.kept_removes.specs.declared.KeptRemove.{KeptRemove}
use Rattle.kept_removes.specs.Parts.{on_kept_remove}
use Rattle.kept_epochs.specs.declared.KeptCollect.{KeptCollect}
use Rattle.kept_epochs.specs.Parts.{on_kept_collect}
use Rattle.kept_commits.specs.declared.KeptCommit.{KeptCommit}
use Rattle.kept_commits.specs.Early.{commit_early}
use Rattle.kept_commits.specs.KeptStored.{as_commit}
use Rattle.replay_calls.specs.declared.Held.{Held}
use Rattle.replay_calls.specs.Held.{held_tables, VolumesDone, TokensDone, LookDone, DeleteDone, RemoveDone, PassDone, CollectDone, slot_at, SlotDone, CommitDone}
use Rattle.replay_calls.specs.EarlyLaws.{early_rule}
use Rattle.transcripts.specs.Parts.{desk_of}
use Rattle.transcripts.proofs.ReplayLaws.{Answered, Carried}

-- ---- a desk that calls reach is sound, and there the work of an advance and of a commit is its rule

tables_in : (d : Desk) → DeskInvariant d → sound_tables d.tables ≡ true
tables_in d i = of_parts d.tables (tables_sound d i.passes)

slot_in : (d : Desk) → DeskInvariant d → (j : ℕ) → j < slot_rows → sound_session d.tables (get_or d.sessions j fresh_session) ≡ true
slot_in d i j h = all_at (sound_session d.tables) d.sessions (slots_sound d i.passes) j (rw i.slots h) fresh_session

advance_is : (d : Desk) → DeskInvariant d → (block : ℕ) → advance_within block d.tables ≡ ask_rule (Ask.advance block) d.tables
unfolding ask_rule
advance_is d i block = advance_sound d.tables i.shape.entry_rows_lem (tables_in d i) block

commit_is : (d : Desk) → DeskInvariant d → (j : ℕ) → j < slot_rows
    → commit_within d.tables (get_or d.sessions j fresh_session) ≡ work_rule commits d.tables (get_or d.sessions j fresh_session)
unfolding work_rule
commit_is d i j h = commit_sound d.tables (get_or d.sessions j fresh_session) i.shape.entry_rows_lem (tables_in d i) (slot_in d i j h)

-- the collection leaves the answer
same_answer : (block : ℕ) (due : Bool) (x : TablesOutcome) → (collected due block x).answer ≡ x.answer
unfolding collected
same_answer block true x = refl
same_answer block false x = refl

-- ---- the arms

-- the arm names a group of records
module _ (g : Group) where
  pub relays_stand : (w : RelayCall) → g ≡ group.Relays w → is_record g ≡ true
  relays_stand w e = rw e

  pub volumes_stand : (w : VolumeCall) → g ≡ group.Volumes w → is_record g ≡ true
  volumes_stand w e = rw e

  pub tokens_stand : (w : TokenCall) → g ≡ group.Tokens w → is_record g ≡ true
  tokens_stand w e = rw e

  pub look_stand : g ≡ group.Look → is_record g ≡ true
  look_stand e = rw e

  pub delete_stand : g ≡ group.Delete → is_record g ≡ true
  delete_stand e = rw e

  pub remove_stand : g ≡ group.Remove → is_record g ≡ true
  remove_stand e = rw e

  pub slot_stand : (w : SlotCall) → g ≡ group.Slot w → is_record g ≡ true
  slot_stand w e = rw e

  pub no_slot_stand : g ≡ group.NoSlot → is_record g ≡ true
  no_slot_stand e = rw e

  pub advance_stand : g ≡ group.Advance → is_record g ≡ true
  advance_stand e = rw e

  pub commit_stand : g ≡ group.Commit → is_record g ≡ true
  commit_stand e = rw e

-- y stands at p of the journal
module _ (v : Version) (j : List ℕ) (p : ℕ) (y : Item) (ey : StandsAt v j p y) where
  abbrev r : Record
  r = y.fields

  abbrev g : Group
  g = y.group

  named : is_record g ≡ true → g ≡ group_of r.kind r.slot
  named w = item_named v j p y ey.same w

  -- a slot that is there
  pub slot_below : (w : SlotCall) → g ≡ group.Slot w → r.slot < 4
  slot_below w e = slot_there r.kind r.slot (rw (← named (rw e), e))

  pub commit_below : g ≡ group.Commit → r.slot < 4
  commit_below e = slot_there r.kind r.slot (rw (← named (rw e), e))

  -- and its place in memory
  pub slot_fits : (w : SlotCall) (m : ℕ) → ltb (4 * m) (2 ^ 64) ≡ true → g ≡ group.Slot w → Fits w64 (r.slot * m)
  slot_fits k m w e = record { fits = omega (arith, mul-le-mul_right m (slot_below k e), ltb-true (4 * m) (2 ^ 64) w) }

  pub commit_fits : (m : ℕ) → ltb (4 * m) (2 ^ 64) ≡ true → g ≡ group.Commit → Fits w64 (r.slot * m)
  commit_fits m w e = record { fits = omega (arith, mul-le-mul_right m (commit_below e), ltb-true (4 * m) (2 ^ 64) w) }

  module _ (l : List ℕ) (t : Tables) (slots : List Session) (a : Answer) where
    by_outcome : is_record g ≡ true → (o : Outcome) → o ≡ rule (call_in g r l) (desk_of t slots) → a ≡ o.answer → Carried g r l t slots a o.desk.tables o.desk.sessions
    by_outcome w o f ea =
        let call-is : call_at v01 r l ≡ call_in g r l = rw (named w) (call_in_group r l) in
        record { stands = w; same = rw (call-is, ea) f }

    said : (t' : Tables) (slots' : List Session) → Carried g r l t slots a t' slots' → Answered g r l t slots a
    said t' slots' c = record { stands = c.stands; same = ap (λ (o : Outcome). o.answer) c.same }

    -- a call on the tables: the slots are as they were
    by_ask : is_record g ≡ true → (x : TablesOutcome) (q : Ask) → call_in g r l ≡ ask q → x ≡ ask_rule q t → a ≡ x.answer → Carried g r l t slots a x.tables slots
    unfolding rule
    by_ask w x q e f ea = by_outcome w (on_tables (desk_of t slots) x) (rw (e, ← f)) ea

    -- one on the session of a slot: that slot is changed
    by_work : is_record g ≡ true → (x : SlotOutcome) (w : Work) → call_in g r l ≡ on_slot r.slot w → r.slot < 4 → x ≡ work_rule w t (get_or slots r.slot fresh_session)
        → a ≡ x.answer → Carried g r l t slots a x.tables (set slots r.slot x.session)
    unfolding rule
    by_work i x w e h f ea = by_outcome i (with_slot (desk_of t slots) r.slot x) (rw (e, lt-leb slot_rows r.slot h, ← f)) ea

    -- one on no slot
    none_carried : g ≡ group.NoSlot → a ≡ refusal BAD → Carried g r l t slots a t slots
    none_carried e ea = record { stands = rw e; same = rw (no_slot_refused r l (desk_of t slots) (rw (← named (rw e), e)), ea) }

    pub no_slot_carried : g ≡ group.NoSlot → a ≡ refusal BAD → (t' : Tables) (slots' : List Session) → t' ≡ t → slots' ≡ slots → Carried g r l t slots a t' slots'
    no_slot_carried e ea t' slots' et es = rw (et, es) (none_carried e ea)

    pub no_slot_said : g ≡ group.NoSlot → a ≡ refusal BAD → Answered g r l t slots a
    no_slot_said e ea = said t slots (none_carried e ea)

    -- o is what the call on the relays gave: the row that it changes
    module _ (o : RelayChange) (ea : a ≡ o.answer) (w : RelayCall) (f : RelayDone t.clock t.relays t.last_relay w r o) (e : g ≡ group.Relays w) where
      changes : Carried g r l t slots a (on_row t o).tables slots
      changes = by_ask (rw e) (on_row t o) (relay_ask w r) (rw e) (f.told t refl refl refl) ea

      pub relays_said : Answered g r l t slots a
      relays_said = said (on_row t o).tables slots changes

      pub relays_changed : o.changed ≡ true → (t' : Tables) (slots' : List Session) → t' ≡ with_last_relay (with_relays t (set t.relays o.at o.row)) o.last
          → slots' ≡ slots → Carried g r l t slots a t' slots'
      relays_changed ec t' slots' et es = rw (et, es) (rw ec at changes)

      pub relays_kept : o.changed ≡ false → (t' : Tables) (slots' : List Session) → t' ≡ t → slots' ≡ slots → Carried g r l t slots a t' slots'
      relays_kept ec t' slots' et es = rw (et, es) (rw ec at changes)

    -- x is what an advance left before the collection, which follows where due is true
    module _ (i : DeskInvariant (desk_of t slots)) (x : TablesOutcome) (due : Bool) (f : x ≡ pass_within r.amount t) (fd : due ≡ due_within r.amount t)
        (e : g ≡ group.Advance) (ea : a ≡ x.answer) where
      in_parts : advance_within r.amount t ≡ collected due r.amount x
      in_parts = advance_parts t r.amount ∙ rw (f, fd)

      advances : Carried g r l t slots a (collected due r.amount x).tables slots
      advances =
          by_ask (rw e) (collected due r.amount x) (Ask.advance r.amount) (rw e) (sym in_parts ∙ advance_is (desk_of t slots) i r.amount)
          (ea ∙ sym (same_answer r.amount due x))

  -- ---- the tables and the slots as they are held
  module _ (l : List ℕ) (t : Tables) (h : Held) (relays : List Relay) (slots : List KeptSession) (a : Answer) where
    abbrev now : Tables
    now = held_tables j t h relays

    abbrev sessions : List Session
    sessions = slots_in j slots

    -- x is what the call on the tables gave
    module _ (x : TablesOutcome) (q : Ask) (f : Asked x q now) (ea : a ≡ x.answer) where
      asked : is_record g ≡ true → call_in g r l ≡ ask q → Carried g r l now sessions a x.tables sessions
      asked i e = by_ask l now sessions a i x q e f.same ea

      asked_said : is_record g ≡ true → call_in g r l ≡ ask q → Answered g r l now sessions a
      asked_said i e = said l now sessions a x.tables sessions (asked i e)

    module _ (w : VolumeCall) (o : VolumesOutcome) (f : VolumesDone j t w r l o) (e : g ≡ group.Volumes w) (ea : a ≡ o.answer) where
      pub volumes_said : Answered g r l now sessions a
      volumes_said = asked_said (on_volumes now o) (volume_ask w r l) (f.told h relays) ea (rw e) (rw e)

      pub volumes_carried : (t' : Tables) (slots' : List Session) → t' ≡ (on_volumes now o).tables → slots' ≡ sessions → Carried g r l now sessions a t' slots'
      volumes_carried t' slots' et es = rw (et, es) (asked (on_volumes now o) (volume_ask w r l) (f.told h relays) ea (rw e) (rw e))

    module _ (w : TokenCall) (o : KeptTokens) (f : TokensDone j t h w r l o) (e : g ≡ group.Tokens w) (ea : a ≡ o.answer) where
      pub tokens_said : Answered g r l now sessions a
      tokens_said = asked_said (on_kept_tokens j now o) (token_ask w r l) (f.told relays) ea (rw e) (rw e)

      pub tokens_carried : (t' : Tables) (slots' : List Session) → t' ≡ (on_kept_tokens j now o).tables → slots' ≡ sessions → Carried g r l now sessions a t' slots'
      tokens_carried t' slots' et es = rw (et, es) (asked (on_kept_tokens j now o) (token_ask w r l) (f.told relays) ea (rw e) (rw e))

    module _ (f : LookDone j t h r l a) (e : g ≡ group.Look) where
      pub look_said : Answered g r l now sessions a
      look_said = asked_said (unchanged now a) (look_ask r l) (f.told relays) refl (rw e) (rw e)

      pub look_carried : (t' : Tables) (slots' : List Session) → t' ≡ now → slots' ≡ sessions → Carried g r l now sessions a t' slots'
      look_carried t' slots' et es = rw (et, es) (asked (unchanged now a) (look_ask r l) (f.told relays) refl (rw e) (rw e))

    module _ (o : KeptDelete) (f : DeleteDone j t h r l o) (e : g ≡ group.Delete) (ea : a ≡ o.answer) where
      pub delete_said : Answered g r l now sessions a
      delete_said = asked_said (on_kept_delete j now o) (delete_ask r l) (f.told relays) ea (rw e) (rw e)

      pub delete_carried : (t' : Tables) (slots' : List Session) → t' ≡ (on_kept_delete j now o).tables → slots' ≡ sessions → Carried g r l now sessions a t' slots'
      delete_carried t' slots' et es = rw (et, es) (asked (on_kept_delete j now o) (delete_ask r l) (f.told relays) ea (rw e) (rw e))

    module _ (o : KeptRemove) (f : RemoveDone j t h relays r l o) (e : g ≡ group.Remove) (ea : a ≡ o.answer) where
      pub remove_said : Answered g r l now sessions a
      remove_said = asked_said (on_kept_remove j now o) (remove_ask r l) f.told ea (rw e) (rw e)

      pub remove_carried : (t' : Tables) (slots' : List Session) → t' ≡ (on_kept_remove j now o).tables → slots' ≡ sessions → Carried g r l now sessions a t' slots'
      remove_carried t' slots' et es = rw (et, es) (asked (on_kept_remove j now o) (remove_ask r l) f.told ea (rw e) (rw e))

    -- an advance, and the collection that follows where volumes are due
    module _ (i : DeskInvariant (desk_of now sessions)) (o : PassOutcome) (f : PassDone t h relays r.amount o) (e : g ≡ group.Advance) (ea : a ≡ o.answer) where
      passed : Carried g r l now sessions a (collected o.due r.amount (on_pass now o)).tables sessions
      passed = advances l now sessions a i (on_pass now o) o.due (f.told j) (f.due j) e ea

      pub advance_said : Answered g r l now sessions a
      advance_said = said l now sessions a (collected o.due r.amount (on_pass now o)).tables sessions passed

      pub advance_carried : o.due ≡ false → (t' : Tables) (slots' : List Session) → t' ≡ (on_pass now o).tables → slots' ≡ sessions
          → Carried g r l now sessions a t' slots'
      unfolding collected
      advance_carried ed t' slots' et es = rw (et, es) (rw ed at passed)

      -- c is what the collection left of the tables after the advance
      pub collection_carried : o.due ≡ true → (t₁ : Tables) (relays₁ : List Relay) (c : KeptCollect) → CollectDone t₁ h relays₁ r.amount c
          → held_tables j t₁ h relays₁ ≡ (on_pass now o).tables → (t' : Tables) (slots' : List Session) → t' ≡ on_kept_collect j (held_tables j t₁ h relays₁) c → slots' ≡ sessions
          → Carried g r l now sessions a t' slots'
      unfolding collected
      collection_carried ed t₁ relays₁ c k e₁ t' slots' et es =
          let left : t' ≡ collect (is_due r.amount) (on_pass now o).tables = et ∙ k.told j ∙ rw e₁ in
          rw (left, es) (rw ed at passed)

    -- a call on a slot, but for commit
    module _ (w : SlotCall) (o : KeptOutcome) (f : SlotDone j t h slots w r l o) (e : g ≡ group.Slot w) (ea : a ≡ o.answer) where
      works : Carried g r l now sessions a now (set sessions r.slot (session_in j o.session))
      works = by_work l now sessions a (rw e) (on_kept_session j now o) (slot_work w r l) (rw e) (slot_below w e) (f.told relays) ea

      pub slot_said : Answered g r l now sessions a
      slot_said = said l now sessions a now (set sessions r.slot (session_in j o.session)) works

      pub slot_carried : (t' : Tables) (slots' : List KeptSession) → t' ≡ now → slots' ≡ set slots r.slot o.session
          → Carried g r l now sessions a t' (slots_in j slots')
      slot_carried t' slots' et es = rw (et, es, map_set (session_in j) slots r.slot o.session) works

    -- a commit
    module _ (i : DeskInvariant (desk_of now sessions)) (o : KeptCommit) (f : CommitDone j t h slots relays r o) (e : g ≡ group.Commit) (ea : a ≡ o.answer) where
      by_rule : commit_early now (slot_at j slots r) ≡ work_rule commits now (slot_at j slots r)
      unfolding work_rule
      by_rule = early_rule now (slot_at j slots r) (commit_is (desk_of now sessions) i r.slot (commit_below e))

      committed : Carried g r l now sessions a (on_commit now (as_commit j o)).tables (set sessions r.slot (session_in j o.session))
      committed = by_work l now sessions a (rw e) (on_commit now (as_commit j o)) commits (rw e) (commit_below e) (f.told ∙ by_rule) ea

      pub commit_said : Answered g r l now sessions a
      commit_said = said l now sessions a (on_commit now (as_commit j o)).tables (set sessions r.slot (session_in j o.session)) committed

      pub commit_carried : (t' : Tables) (slots' : List KeptSession) → t' ≡ (on_commit now (as_commit j o)).tables → slots' ≡ set slots r.slot o.session
          → Carried g r l now sessions a t' (slots_in j slots')
      commit_carried t' slots' et es = rw (et, es, map_set (session_in j) slots r.slot o.session) committed
