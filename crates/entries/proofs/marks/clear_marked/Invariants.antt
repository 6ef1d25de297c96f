-- `marks::clear_marked` meets its contract: after i turns the first i rows are cleared where they are marked. Assumes nothing.
use Rattle.lists.specs.ByteLoopLaws.{FillLoop}
use Rattle.entries.specs.Marks.{cleared_by}
use Rattle.entries.proofs.marks.clear_marked.Given as goal

abbrev pub invariant-loop-i : goal.invariant-loop-i
invariant-loop-i l = FillLoop l.initial.left 0 (cleared_by l.marks l.fresh l.initial.left) 64 l.i l.left
