-- `marks::kept_volumes` meets its contract: after i turns the first i numbers are stored. Assumes nothing.
use mathlib.Core.List.{map}
use Prim.Native.Nat.{◌-◌}
use lib.ListN.{replicate}
use Rattle.lists.specs.ByteLoopLaws.{FillLoop}
use Rattle.kept_entries.proofs.RowLaws.{kept_volume}
use Rattle.kept_entries.proofs.marks.kept_volumes.Given as goal

abbrev pub invariant-loop-i : goal.invariant-loop-i
invariant-loop-i l = FillLoop (replicate 64 0) 0 (map kept_volume l.rows) 64 l.i l.numbers
