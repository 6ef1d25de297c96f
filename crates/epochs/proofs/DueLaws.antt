-- When a volume is due, by its status, and its number where it is. Assumes nothing.
use mathlib.Core.Path.{◌≡◌, sym, ◌∙◌}
use mathlib.Core.Bool.{Bool, true, false, or-false}
use Prim.Native.Nat.{ℕ, ◌+◌, ◌-◌, ◌<◌, ◌≤◌}
use native.Mathlib.Omega.{arith}
use borrow.Author.Rules.{rules}
use borrow.Author.Tests.{le-leb, lt-leb, leb-true}
use lib.Dec.{leb}
use Rattle.lists.specs.BoolLaws.{same_test}
use Rattle.lists.specs.AnswerLaws.{none_given, some_given}
use Rattle.rules.specs.declared.Status.TheVariants.{Active, Grace, Deleted}
use Rattle.rules.specs.declared.Volume.{Volume}
use Rattle.rules.specs.Limits.{deleted_blocks, grace_end}
use Rattle.rules.specs.Advance.{is_due}
use Rattle.epochs.specs.Gone.{due_number}

-- the delete lies so many blocks back, by a difference that the code may take
pub too_early : (clock deleted : ℕ) → clock < deleted_blocks → false ≡ leb (deleted + deleted_blocks) clock
too_early clock deleted h = sym (lt-leb (deleted + deleted_blocks) clock (omega arith))

pub far_back : (clock deleted : ℕ) → deleted_blocks ≤ clock → leb deleted (clock - deleted_blocks) ≡ leb (deleted + deleted_blocks) clock
far_back clock deleted h =
    same_test (leb deleted (clock - deleted_blocks)) (leb (deleted + deleted_blocks) clock)
    (λ e. le-leb (deleted + deleted_blocks) clock (omega (arith, leb-true deleted (clock - deleted_blocks) e)))
    (λ e. le-leb deleted (clock - deleted_blocks) (omega (arith, leb-true (deleted + deleted_blocks) clock e)))

module _ (clock : ℕ) (v : Volume) where
  pub free_row : v.no.0 ≡ 0 → false ≡ is_due clock v
  unfolding is_due
  free_row e = sym (rw (none_given v.no.0 e))

  module _ (some : v.no.0 ≡ 0 → ⊥) where
    pub active_stays : v.status ≡ Active → false ≡ is_due clock v
    unfolding is_due
    active_stays e = sym (rw (some_given v.no.0 some, e))

    pub grace_ends : v.status ≡ Grace → leb grace_end v.grace ≡ is_due clock v
    unfolding is_due
    grace_ends e = sym (rw (some_given v.no.0 some, e) (or-false (leb grace_end v.grace)))

    -- r is what the code said of the delete
    pub deleted_ends : (r : Bool) → v.status ≡ Deleted → r ≡ leb (v.deleted + deleted_blocks) clock → r ≡ is_due clock v
    unfolding is_due
    deleted_ends r e q = q ∙ sym (rw (some_given v.no.0 some, e))

  -- b is what the code said of the volume
  module _ (b : Bool) (e : b ≡ is_due clock v) where
    pub due_is : b ≡ true → v.no.0 ≡ due_number clock v
    unfolding due_number
    due_is t = sym (rw (sym e ∙ t))

    pub not_due : b ≡ false → 0 ≡ due_number clock v
    unfolding due_number
    not_due t = sym (rw (sym e ∙ t))

pub ruleset dues = (free_row, active_stays, grace_ends, deleted_ends, rules)
