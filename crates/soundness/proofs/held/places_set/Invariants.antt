-- `held::places_set` meets its contract: before each place, the rows of those so far. Assumes nothing.
use Prim.Native.Nat.{◌-◌}
use lib.ListN.{length}
use Rattle.soundness.proofs.HeldLaws.{HeldLoop}
use Rattle.soundness.proofs.held.places_set.Given as goal

abbrev pub invariant-loop-p : goal.invariant-loop-p
invariant-loop-p l = HeldLoop l.numbers l.table l.places l.p l.set
