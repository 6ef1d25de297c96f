-- What a call answers: on a desk that is not sound, on a slot that there is not, and else what its rule answers on the tables, or on the
-- tables and one slot. r is what the code said of the desk. Assumes nothing.
use mathlib.Core.Path.{◌≡◌, refl, sym, ◌∙◌}
use mathlib.Core.Bool.{Bool, not, true, false}
use mathlib.Core.List.{List, [], ◌∷◌}
use Prim.Native.Nat.{ℕ, zero, suc, ◌<◌, ◌≤◌}
use borrow.Author.Tests.{le-leb, lt-leb, not-true, not-false}
use lib.ListN.{length, get_or}
use Rattle.lists.specs.Lists.{all_of}
use Rattle.lists.specs.BoolLaws.{and_left, and_right}
use Rattle.rules.specs.declared.Tables.{Tables}
use Rattle.rules.specs.declared.Desk.{Desk}
use Rattle.rules.specs.declared.Session.{Session}
use Rattle.rules.specs.declared.Outcome.{Outcome}
use Rattle.rules.specs.declared.TablesOutcome.{TablesOutcome}
use Rattle.rules.specs.declared.SlotOutcome.{SlotOutcome}
use Rattle.rules.specs.Limits.{slot_rows, entry_rows}
use Rattle.rules.specs.Numbers.{BAD}
use Rattle.rules.specs.Fresh.{fresh_session}
use Rattle.rules.specs.Outcome.{desk_refused, on_tables}
use Rattle.rules.specs.Sound.{sound, sound_tables, sound_session}
use Rattle.rules.specs.Advance.{advance_rule}
use Rattle.rules.specs.Commit.{commit_rule}
use Rattle.rules.proofs.Laws.RowFacts.{idle_session}
use Rattle.rules.proofs.Laws.SoundParts.{of_parts, tables_sound, slots_sound}
use Rattle.rules.specs.Calls.{Ask, Work, Call, ask_rule, work_rule, with_slot, rule, step}
use Rattle.commits.specs.Within.{commit_within}
use Rattle.commits.specs.WithinLaws.{commit_sound}
use Rattle.epochs.specs.Within.{advance_within}
use Rattle.epochs.specs.WithinLaws.{advance_sound}

-- a row of a table whose rows all pass, or what stands for a row past its end
all_get_d : {A : Type 0} (p : A → Bool) (l : List A) (i : ℕ) (d : A) → all_of p l ≡ true → p d ≡ true → p (get_or l i d) ≡ true
all_get_d p [] i d e f = f
all_get_d p (x ∷ xs) zero d e f = and_left (p x) (all_of p xs) e
all_get_d p (x ∷ xs) (suc i) d e f = all_get_d p xs i d (and_right (p x) (all_of p xs) e) f

module _ (d : Desk) (x : Outcome) {r : Bool} (e : r ≡ sound d) where
  pub unsound : (c : Call) → not r ≡ true → x ≡ desk_refused d BAD → x ≡ step c d
  unfolding step
  unsound c n f = rw (← e, not-true r n) f

  pub asked : (a : Ask) (o : TablesOutcome) → not r ≡ false → x ≡ on_tables d o → o ≡ ask_rule a d.tables → x ≡ step (Call.ask a) d
  unfolding step rule
  asked a o y f g = rw (← e, not-false r y, ← g) f

  pub no_slot : (w : Work) (slot : ℕ) → not r ≡ false → slot_rows ≤ slot → x ≡ desk_refused d BAD → x ≡ step (Call.on_slot slot w) d
  unfolding step rule
  no_slot w slot y h f = rw (← e, not-false r y, le-leb slot_rows slot h) f

  pub worked : (w : Work) (slot : ℕ) (s : Session) (o : SlotOutcome) → not r ≡ false → slot < slot_rows → s ≡ get_or d.sessions slot fresh_session
      → x ≡ with_slot d slot o → o ≡ work_rule w d.tables s → x ≡ step (Call.on_slot slot w) d
  unfolding step rule
  worked w slot s o y h q f g = rw (← e, not-false r y, lt-leb slot_rows slot h, ← q, ← g) f

-- what the test of the desk says of its tables and of a slot
module _ (d : Desk) {r : Bool} (e : r ≡ sound d) (y : not r ≡ false) where
  pub tables_told : sound_tables d.tables ≡ true
  tables_told = of_parts d.tables (tables_sound d (sym e ∙ not-false r y))

  pub slot_told : (s : Session) (slot : ℕ) → s ≡ get_or d.sessions slot fresh_session → sound_session d.tables s ≡ true
  slot_told s slot q =
      rw q
      (all_get_d (sound_session d.tables) d.sessions slot fresh_session (slots_sound d (sym e ∙ not-false r y)) (idle_session d.tables fresh_session refl))

-- the work of an advance and of a commit, where it is the rule
pub advances : (t : Tables) (block : ℕ) (o : TablesOutcome) → sound_tables t ≡ true → length t.entries ≡ entry_rows → o ≡ advance_within block t → o ≡ advance_rule block t
advances t block o s l e = e ∙ advance_sound t l s block

pub commits : (t : Tables) (w : Session) (o : SlotOutcome) → sound_tables t ≡ true → sound_session t w ≡ true → length t.entries ≡ entry_rows → o ≡ commit_within t w
    → o ≡ commit_rule t w
commits t w o s u l e = e ∙ commit_sound t w l s u
