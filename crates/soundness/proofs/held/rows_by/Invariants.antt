-- `held::rows_by` meets its contract: what is stored is a row. Assumes nothing.
use Prim.Native.Nat.{◌-◌}
use Rattle.soundness.proofs.HeldLaws.{SlotsLoop}
use Rattle.soundness.proofs.held.rows_by.Given as goal

abbrev pub invariant-loop-i : goal.invariant-loop-i
invariant-loop-i l = SlotsLoop l.rows l.table l.i
