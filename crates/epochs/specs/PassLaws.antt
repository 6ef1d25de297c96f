-- An advance is its first part and then the collection, where it has one. Assumes nothing.
use Rattle.std.specs.Prelude.{◌≡◌, Bool, ◌&&◌, cond, not, ℕ, leb}
use Rattle.std.proofs.Math.Path.{refl}
use Rattle.std.proofs.Common.{sym, ap}
use Rattle.std.proofs.Math.Bool.{true, false}
use Rattle.lists.specs.Lists.{any_of}
use Rattle.rules.specs.declared.Tables.{Tables}
use Rattle.rules.specs.declared.TablesOutcome.{TablesOutcome}
use Rattle.rules.specs.Numbers.{BAD, CLOCK}
use Rattle.rules.specs.Tables.{with_clock}
use Rattle.rules.specs.Rent.{epoch_ends}
use Rattle.rules.specs.Outcome.{refused, accepted}
use Rattle.rules.specs.Advance.{is_due, relays_leave, at_epoch, collect, bad_block, advanced}
use Rattle.epochs.specs.Parts.{collected}
use Rattle.epochs.specs.GoneLaws.{none_due}
use Rattle.epochs.specs.Within.{can_advance, advance_within, pass_within, due_within}

-- the collection, or none where no volume is due
when_due : (block : ℕ) (u : Tables) (due : Bool) → due ≡ any_of (is_due block) u.volumes → accepted block (collect (is_due block) u) ≡ collected due block (accepted block u)
unfolding collected
when_due block u true e = refl
when_due block u false e = ap (accepted block) (none_due (is_due block) u (sym e))

module _ (t : Tables) (block : ℕ) where
  abbrev before : Tables
  before = at_epoch (leb 1 (epoch_ends t.clock block)) (relays_leave (with_clock t block))

  -- bad and can say whether the block is refused and whether all volumes can be settled
  abbrev first : Bool → Bool → TablesOutcome
  first bad can = cond bad (refused t CLOCK) (cond can (accepted block before) (refused t BAD))

  by_tests : (bad can : Bool)
      → cond bad (refused t CLOCK) (cond can (accepted block (collect (is_due block) before)) (refused t BAD))
      ≡ collected (not bad && (can && any_of (is_due block) (first bad can).tables.volumes)) block (first bad can)
  unfolding collected
  by_tests true can = refl
  by_tests false true = when_due block before (any_of (is_due block) before.volumes) refl
  by_tests false false = refl

  pub advance_parts : advance_within block t ≡ collected (due_within block t) block (pass_within block t)
  unfolding advance_within pass_within due_within advanced
  advance_parts = by_tests (bad_block t.clock block) (can_advance block t)
