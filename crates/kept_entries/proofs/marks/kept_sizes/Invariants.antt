-- `marks::kept_sizes` meets its contract: after i turns the first i sizes are stored. Assumes nothing.
use mathlib.Core.List.{map}
use Prim.Native.Nat.{◌-◌}
use lib.ListN.{replicate}
use Rattle.lists.specs.ByteLoopLaws.{FillLoop}
use Rattle.kept_entries.proofs.RowLaws.{kept_size}
use Rattle.kept_entries.proofs.marks.kept_sizes.Given as goal

abbrev pub invariant-loop-i : goal.invariant-loop-i
invariant-loop-i l = FillLoop (replicate 64 0) 0 (map kept_size l.rows) 64 l.i l.sizes
