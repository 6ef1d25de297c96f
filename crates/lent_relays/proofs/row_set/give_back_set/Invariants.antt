-- Before each row, the rows of the set below it are changed, and no other.
use Rattle.std.proofs.Common.{◌-◌}
use Rattle.lent_relays.specs.RowSetLaws.{RowSetLoop}
use Rattle.lent_relays.proofs.row_set.give_back_set.Given as goal

abbrev pub invariant-loop-i : goal.invariant-loop-i
invariant-loop-i l = RowSetLoop l.set l.bytes l.initial.left 32 l.i l.left

abbrev pub decreases-loop-i : goal.decreases-loop-i
decreases-loop-i l = 32 - l.i
