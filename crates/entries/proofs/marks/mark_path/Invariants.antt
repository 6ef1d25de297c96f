-- `marks::mark_path` meets its contract: after i turns the first i rows have their marks. Assumes nothing.
use mathlib.Core.Bool.{false}
use mathlib.Core.List.{map}
use lib.ListN.{replicate}
use Rattle.lists.specs.ByteLoopLaws.{FillLoop}
use Rattle.rules.specs.Tables.{is_entry}
use Rattle.entries.proofs.marks.mark_path.Given as goal

abbrev pub invariant-loop-i : goal.invariant-loop-i
invariant-loop-i l = FillLoop (replicate 64 false) 0 (map (is_entry l.n l.path) l.entries) 64 l.i l.marks
