-- `clear::clear_kept` meets its contract: the rows of the set, one after another. Assumes nothing.
use Prim.Native.Nat.{◌-◌}
use Rattle.kept_tokens.proofs.ClearLaws.{ClearSetLoop}
use Rattle.kept_tokens.proofs.clear.clear_kept.Given as goal

abbrev pub invariant-loop-i : goal.invariant-loop-i
invariant-loop-i l = ClearSetLoop l.set l.initial.next l.i l.next
