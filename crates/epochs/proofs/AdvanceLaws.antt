-- What a collection and an advance leave, by what the code made. Assumes nothing.
use mathlib.Core.Path.{◌≡◌, refl, sym, ◌∙◌, ap}
use mathlib.Core.Bool.{Bool, true, false, ◌||◌, cond, not}
use mathlib.Core.List.{List, map}
use Rattle.std.specs.Prelude.{Option, Some, None}
use native.Mathlib.Omega.{arith}
use Prim.Native.Nat.{ℕ, ◌<◌, ◌≤◌}
use borrow.Author.Rules.{rules}
use borrow.Author.Tests.{not-true, not-false, le-leb, lt-leb}
use lib.Dec.{leb}
use Rattle.lists.specs.Lists.{any_of, keep}
use Rattle.rules.specs.declared.Answer.{Answer}
use Rattle.rules.specs.declared.Volume.{Volume}
use Rattle.rules.specs.declared.Entry.{Entry}
use Rattle.rules.specs.declared.Token.{Token}
use Rattle.rules.specs.declared.Relay.{Relay}
use Rattle.rules.specs.declared.Tables.{Tables}
use Rattle.rules.specs.Numbers.{BAD, CLOCK}
use Rattle.rules.specs.Fresh.{fresh_volume, fresh_entry, fresh_token, fresh_relay}
use Rattle.rules.specs.Tables.{cleared, with_clock, with_volumes, with_relays}
use Rattle.rules.specs.Relays.{is_dead, lightened}
use Rattle.rules.specs.Rent.{size_of, rent_now, epoch_ends}
use Rattle.rules.specs.Outcome.{success, refused}
use Rattle.rules.specs.VolumeCalls.{drop_entries}
use Rattle.rules.specs.Advance.{is_due, entry_of_one, relays_leave, settled, settle, at_epoch, collect, bad_block}
use Rattle.rents.specs.Within.{entry_volume}
use Rattle.entries.specs.Marks.{marked, cleared_by}
use Rattle.entries.specs.MarkLaws.{marked_keep, cleared_by_lem}
use Rattle.epochs.specs.declared.PassOutcome.{PassOutcome}
use Rattle.epochs.specs.declared.CollectOutcome.{CollectOutcome}
use Rattle.epochs.specs.Parts.{on_advance, on_pass, pass_refused, on_collect, collected}
use Rattle.epochs.specs.Gone.{due_number, entry_gone, token_gone}
use Rattle.epochs.specs.GoneLaws.{marks_gone, tokens_gone_lem}
use Rattle.epochs.specs.Within.{RentParts, RowsSettled, AtSettled, can_settle_all, settled_rows, settled_at, can_advance, advance_within, pass_within, due_within}
use Rattle.epochs.specs.PassLaws.{advance_parts}

-- the volumes vs and the relays rs are those that the collection starts from
module _ (t : Tables) (block : ℕ) (vs : List Volume) (rs : List Relay) where
  -- the marked entries give their room back and go, and so do the tokens and rows of the volumes that are due
  pub collects : (gone : List ℕ) (ms : List Bool) (rows : List Relay) (left : List Entry) (ks : List Token) (kept : List Volume)
      → gone ≡ map (due_number block) vs → ms ≡ map (entry_gone gone) t.entries → rows ≡ map (lightened vs (marked ms t.entries)) rs
      → left ≡ cleared_by ms fresh_entry t.entries → ks ≡ cleared (token_gone gone) fresh_token t.tokens → kept ≡ cleared (is_due block) fresh_volume vs
      → on_collect t (record { volumes = kept; entries = left; tokens = ks; relays = rows }) ≡ collect (is_due block) (with_relays (with_volumes t vs) rs)
  unfolding collect drop_entries
  collects gone ms rows left ks kept g m r l k v =
      let p = entry_of_one (keep (is_due block) vs) in
      let q : ms ≡ map p t.entries = m ∙ rw g (marks_gone block vs t.entries) in
      rw (v, k, g, tokens_gone_lem block vs t.tokens, l, r, q, marked_keep p t.entries, cleared_by_lem p fresh_entry t.entries)

-- the volumes at the block: n is how many epochs end
module _ (block clock rate : ℕ) (rows : List Volume) (ms sizes : List ℕ) (n : ℕ) (e : n ≡ epoch_ends clock block) where
  test_is : (b : Bool) → leb 1 n ≡ b → (t : Tables) → t.clock ≡ clock → leb 1 (epoch_ends t.clock block) ≡ b
  test_is b w t c = ap (λ (k : ℕ). leb 1 (epoch_ends k block)) c ∙ ap (leb 1) (sym e) ∙ w

  pub within_epoch : n < 1 → AtSettled block clock rate rows ms sizes (Some rows)
  unfolding settled_at
  within_epoch h =
      record {
        told = λ t c p.
            rw (test_is false (lt-leb 1 n h) t c) (ap (λ (l : List Volume). Some l) (sym p.rows_of));
      }

  -- y is the volumes after the epoch end
  pub at_end : (y : Option (List Volume)) → 1 ≤ n → RowsSettled rate rows ms sizes y → AtSettled block clock rate rows ms sizes y
  unfolding settled_at
  at_end y h s = record { told = λ t c p. s.told t p ∙ sym (rw (test_is true (le-leb 1 n h) t c)) }

-- the volumes of the rules at the block
abbrev rows_then : Tables → Bool → List Volume
rows_then t ends = cond ends (map (settled t) t.volumes) t.volumes

-- they can be settled where the advance can be made, and are those of the rules
settled_then : (t : Tables) (ends can : Bool) → can_settle_all t ≡ can
    → cond ends (settled_rows t) (Some t.volumes) ≡ cond (not ends || can) (Some (rows_then t ends)) None
unfolding settled_rows
settled_then t true can w = rw w
settled_then t false can w = refl

rows_at : (t : Tables) (block : ℕ) (ends : Bool)
    → at_epoch ends (relays_leave (with_clock t block)) ≡ with_volumes (relays_leave (with_clock t block)) (rows_then t ends)
unfolding at_epoch settle settled rent_now relays_leave
rows_at t block true = refl
rows_at t block false = refl

-- the first part of an advance, of tables with these parts: b is what the code said of the block
module _ (t : Tables) (block clock rate : ℕ) (vs : List Volume) (rs : List Relay) (ms sizes : List ℕ) (c : t.clock ≡ clock) (g : t.rate ≡ rate)
    (v : t.volumes ≡ vs) (l : t.relays ≡ rs) (ow : ms ≡ map entry_volume t.entries) (z : sizes ≡ map size_of t.entries) (b : Bool)
    (bad : b ≡ bad_block clock block) where
  e : b ≡ bad_block t.clock block
  e = rw c bad

  parts : RentParts t rate vs ms sizes
  parts = record { rate_of = g; rows_of = v; volumes_of = ow; sizes_of = z }

  -- o is a refusal
  module _ (o : PassOutcome) where
    refuses : (n : ℕ) → o ≡ pass_refused clock vs rs n → on_pass t o ≡ refused t n
    refuses n q = rw (q, ← c, ← v, ← l)

    nothing_due : (n : ℕ) → o ≡ pass_refused clock vs rs n → o.due ≡ false
    nothing_due n q = rw q

    module _ (f : b ≡ true) (q : o ≡ pass_refused clock vs rs CLOCK) where
      pub bad_outcome : on_pass t o ≡ pass_within block t
      unfolding pass_within
      bad_outcome = rw (sym e ∙ f) (refuses CLOCK q)

      pub bad_due : o.due ≡ due_within block t
      unfolding due_within
      bad_due = rw (sym e ∙ f) (nothing_due CLOCK q)

  -- y is the volumes at the block
  module _ (y : Option (List Volume)) (f : b ≡ false) (told : AtSettled block clock rate vs ms sizes y) where
    made : (can : Bool) → can_advance block t ≡ can → y ≡ cond can (Some (rows_then t (leb 1 (epoch_ends t.clock block)))) None
    unfolding settled_at can_advance
    made can w = told.told t c parts ∙ settled_then t (leb 1 (epoch_ends t.clock block)) (can_settle_all t) refl ∙ rw w

    cannot : y ≡ None → (can : Bool) → can_advance block t ≡ can → can ≡ false
    cannot n true w = absurd (let q : ◌≡◌ {A = ℕ} 0 1 = cc (made true w) in omega arith)
    cannot n false w = refl

    can : (rows : List Volume) → y ≡ Some rows → (can : Bool) → can_advance block t ≡ can
        → (can ≡ true) × (rows ≡ rows_then t (leb 1 (epoch_ends t.clock block)))
    can rows n true w = (refl, cc (made true w))
    can rows n false w = absurd (let q : ◌≡◌ {A = ℕ} 0 1 = cc (made false w) in omega arith)

    module _ (o : PassOutcome) (w : y ≡ None) (q : o ≡ pass_refused clock vs rs BAD) where
      pub unsettled_outcome : on_pass t o ≡ pass_within block t
      unfolding pass_within
      unsettled_outcome = rw (sym e ∙ f, cannot w _ refl) (refuses o BAD q)

      pub unsettled_due : o.due ≡ due_within block t
      unfolding due_within
      unsettled_due = rw (sym e ∙ f, cannot w _ refl) (nothing_due o BAD q)

    module _ (rows : List Volume) (w : y ≡ Some rows) where
      before : at_epoch (leb 1 (epoch_ends t.clock block)) (relays_leave (with_clock t block)) ≡ with_volumes (relays_leave (with_clock t block)) rows
      before = rows_at t block (leb 1 (epoch_ends t.clock block)) ∙ ap (with_volumes (relays_leave (with_clock t block))) (sym (can rows w _ refl).1)

      pub passed_outcome : (left : List Relay) (due : Bool) (answer : Answer) → left ≡ cleared (is_dead block) fresh_relay rs → answer ≡ success block
          → on_pass t (record { answer = answer; clock = block; volumes = rows; relays = left; due = due }) ≡ pass_within block t
      unfolding pass_within relays_leave
      passed_outcome left due answer r a = rw (sym e ∙ f, (can rows w _ refl).0, before, r, a, l)

      pub passed_due : (due : Bool) → due ≡ any_of (is_due block) rows → due ≡ due_within block t
      unfolding pass_within due_within relays_leave
      passed_due due d = rw (sym e ∙ f, (can rows w _ refl).0, before) d

-- of the tables that the parts are of
module _ (t : Tables) (block : ℕ) (o : PassOutcome) (ms sizes : List ℕ) (ow : ms ≡ map entry_volume t.entries) (z : sizes ≡ map size_of t.entries)
    (told : (u : Tables) → u.clock ≡ t.clock → u.rate ≡ t.rate → u.volumes ≡ t.volumes → u.relays ≡ t.relays → ms ≡ map entry_volume u.entries
    → sizes ≡ map size_of u.entries → (on_pass u o ≡ pass_within block u) × (o.due ≡ due_within block u)) where
  pub whole_outcome : on_pass t o ≡ pass_within block t
  whole_outcome = (told t refl refl refl refl ow z).0

  pub whole_due : o.due ≡ due_within block t
  whole_due = (told t refl refl refl refl ow z).1

pub ruleset passes = (passed_outcome, passed_due, unsettled_outcome, unsettled_due, bad_outcome, bad_due, rules)

-- a whole advance: o is what its first part left, and y what the collection left
module _ (t : Tables) (block : ℕ) (o : PassOutcome) (q₁ : on_pass t o ≡ pass_within block t) (q₂ : o.due ≡ due_within block t) where
  q : advance_within block t ≡ collected o.due block (on_pass t o)
  q = advance_parts t block ∙ rw (q₁, q₂)

  pub none_collected : not o.due ≡ true
      → on_advance t (record { answer = o.answer; clock = o.clock; volumes = o.volumes; entries = t.entries; tokens = t.tokens; relays = o.relays }) ≡ advance_within block t
  unfolding collected
  none_collected f = sym (q ∙ rw (not-true o.due f))

  pub some_collected : (y : CollectOutcome) → not o.due ≡ false → on_collect t y ≡ collect (is_due block) (with_relays (with_volumes t o.volumes) o.relays)
      → on_advance t (record { answer = o.answer; clock = o.clock; volumes = y.volumes; entries = y.entries; tokens = y.tokens; relays = y.relays }) ≡ advance_within block t
  unfolding collected collect drop_entries
  some_collected y f e =
      ap (λ (u : Tables). record { answer = o.answer; tables = with_clock u o.clock }) e ∙ sym (q ∙ rw (not-false o.due f))

pub ruleset advances = (none_collected, some_collected, rules)
