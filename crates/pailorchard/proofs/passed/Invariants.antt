-- `passed` meets its contract: the desk is the same at each turn. Assumes nothing.
use Prim.Native.Nat.{◌-◌}
use Rattle.pailorchard.proofs.TestLoop.{TestLoop}
use Rattle.pailorchard.proofs.passed.Given as goal

abbrev pub invariant-loop-n : goal.invariant-loop-n
invariant-loop-n l = TestLoop l.slots l.initial.desk l.desk l.times l.n

abbrev pub decreases-loop-n : goal.decreases-loop-n
decreases-loop-n l = l.times - l.n
