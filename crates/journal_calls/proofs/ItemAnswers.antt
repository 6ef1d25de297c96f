-- What stands at a place of a journal, as the code answers it. Assumes nothing.
use Rattle.std.specs.Prelude.{Option, Some, None, Result, Ok, Err}
use mathlib.Core.Path.{◌≡◌, sym, ◌∙◌, ap}
use mathlib.Core.List.{List, []}
use Prim.Native.Nat.{ℕ, ◌+◌, ◌-◌, ◌^◌, ◌<◌, ◌≤◌}
use native.Mathlib.Omega.{arith}
use borrow.Author.Rules.{rules}
use borrow.Author.Tests.{le-leb, lt-leb}
use mir.Syntax.{w8, w64}
use mir.Val.{Fits}
use lib.ListN.{length, take, drop, get_or, length-drop, drop_of_length-le}
use lib.Seq.{take_all}
use Rattle.rules.specs.Limits.{slot_rows}
use Rattle.journal.specs.declared.Kind.{Kind}
use Rattle.journal.specs.declared.Kind.TheVariants as kind
use Rattle.journal.specs.declared.Record.{Record}
use Rattle.journal.specs.declared.errors.JournalError.{JournalError}
use Rattle.journal.proofs.FieldLaws.{bytes_known}
use Rattle.journal.specs.declared.Version.{Version}
use Rattle.journal.specs.Places.{blank}
use Rattle.journal.specs.Journal.{next_in}
use Rattle.journal_calls.specs.declared.Group.{Group}
use Rattle.journal_calls.specs.declared.Group.TheVariants as group
use Rattle.journal_calls.specs.declared.Item.{Item}
use Rattle.journal_calls.specs.Groups.{on_slot_there, group_of, StandsAt, BodyAt}
use Rattle.journal_calls.specs.NextLaws.{record_sized}

-- the arm of a kind
pub kind_arm : (k j : Kind) (slot : ℕ) (g : Group) → k ≡ j → g ≡ group_of j slot → g ≡ group_of k slot
kind_arm k j slot g e f = rw e f

-- a slot that is not there, or is
pub slot_none : (j : ℕ) (g : Group) → 4 ≤ j → group.NoSlot ≡ on_slot_there j g
slot_none j g h = rw (le-leb slot_rows j h)

pub slot_some : (j : ℕ) (g : Group) → j < 4 → g ≡ on_slot_there j g
slot_some j g h = rw (lt-leb slot_rows j h)

-- where no record stands
pub at_place : (g : Group) (p : ℕ) (r : Record) → r ≡ blank kind.Advance
    → ◌≡◌ {A = Item} (record { group = g; fields = r; after = p }) (record { group = g; fields = blank kind.Advance; after = p })
at_place g p r e = rw e

-- past the last byte stands the end
pub past_end : (v : Version) (l : List ℕ) (p : ℕ) (x : Item) → length l ≤ p → x ≡ record { group = group.End; fields = blank kind.Advance; after = p } → StandsAt v l p x
unfolding next_in
past_end v l p x h e = record { same = rw (e, drop_of_length-le l {i = p} h) }

-- next is what stands next in the bytes that the code has from p on
module _ (v : Version) (l : List ℕ) (p : ℕ) (next : Result (Option (Record × ℕ)) JournalError) (e : next ≡ next_in v (take (length l - p) (drop p l))) where
  here : next_in v (drop p l) ≡ next
  here = sym (e ∙ ap (next_in v) (take_all (length l - p) (drop p l) (omega (arith, length-drop p l))))

  pub end_item : (x : Item) → next ≡ Ok None → x ≡ record { group = group.End; fields = blank kind.Advance; after = p } → StandsAt v l p x
  end_item x w f = record { same = rw (here, w) f }

  pub stop_item : (x : Item) (fault : JournalError) → next ≡ Err fault → x ≡ record { group = group.Stop fault; fields = blank kind.Advance; after = p } → StandsAt v l p x
  stop_item x fault w f = record { same = rw (here, w) f }

  module _ (r : Record) (n : ℕ) (w : next ≡ Ok (Some (r, n))) where
    pub whole_item : (g : Group) → g ≡ group_of r.kind r.slot → StandsAt v l p (record { group = g; fields = r; after = p + n })
    whole_item g f = record { same = rw (here, w, f) }

    pub whole_fits : ((i : ℕ) → Fits w8 (get_or l i 0)) → p < length l → length l < 2 ^ 64 → Fits w64 (p + n)
    whole_fits b k m = record { fits = omega (arith, (record_sized v l (bytes_known l (λ i. (b i).fits)) p r n (here ∙ w)).there, length-drop p l) }

pub ruleset items = (past_end, end_item, stop_item, whole_item, whole_fits, rules)

-- the bytes of a record, as far as the journal has them
module _ (l : List ℕ) (p after : ℕ) where
  empty : (n : ℕ) → take (n - n) (drop n l) ≡ []
  empty n = let e : n - n ≡ 0 = omega arith in rw e

  past : length l ≤ p + 1 → take (after - (p + 2)) (drop (p + 2) l) ≡ []
  past h = rw (drop_of_length-le l {i = p + 2} (omega arith)) (take_all (after - (p + 2)) [] (omega arith))

  -- too few bytes for a record's length: before its end, or before that of the journal
  pub no_body : after - p < 2 → BodyAt l p after (take (after - after) (drop after l))
  no_body h = let f : after - (p + 2) ≡ 0 = omega arith in record { same = rw f (empty after) }

  pub none_before : after < p → BodyAt l p after (take (after - after) (drop after l))
  none_before h = no_body (omega arith)

  pub none_left : length l - p < 2 → BodyAt l p after (take (length l - length l) (drop (length l) l))
  none_left h = record { same = empty (length l) ∙ sym (past (omega arith)) }

  pub none_past : length l < p → BodyAt l p after (take (length l - length l) (drop (length l) l))
  none_past h = none_left (omega arith)

  pub all_left : length l < after → BodyAt l p after (take (length l - (p + 2)) (drop (p + 2) l))
  all_left h =
      record {
        same =
            take_all (length l - (p + 2)) (drop (p + 2) l) (omega (arith, length-drop (p + 2) l))
            ∙ sym (take_all (after - (p + 2)) (drop (p + 2) l) (omega (arith, length-drop (p + 2) l)));
      }
