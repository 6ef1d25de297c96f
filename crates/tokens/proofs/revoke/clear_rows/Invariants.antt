-- `revoke::clear_rows` meets its contract: the rows of the set, one after another. Assumes nothing.
use Prim.Native.Nat.{◌-◌}
use Rattle.tokens.proofs.RevokeLaws.{ClearSetLoop}
use Rattle.tokens.proofs.revoke.clear_rows.Given as goal

abbrev pub invariant-loop-i : goal.invariant-loop-i
invariant-loop-i l = ClearSetLoop l.set l.initial.next l.i l.next
