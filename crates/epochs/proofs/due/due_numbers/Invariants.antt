-- `due::due_numbers` meets its contract: after i turns the first i numbers are stored. Assumes nothing.
use mathlib.Core.List.{map}
use lib.ListN.{replicate}
use Rattle.lists.specs.ByteLoopLaws.{FillLoop}
use Rattle.epochs.specs.Gone.{due_number}
use Rattle.epochs.proofs.due.due_numbers.Given as goal

abbrev pub invariant-loop-i : goal.invariant-loop-i
invariant-loop-i l = FillLoop (replicate 8 0) 0 (map (due_number l.clock) l.rows) 8 l.i l.gone
