-- `raw::entry_volumes` meets its contract: after i turns the first i numbers are stored. Assumes nothing.
use mathlib.Core.List.{map}
use lib.ListN.{replicate}
use Rattle.lists.specs.ByteLoopLaws.{FillLoop}
use Rattle.rents.specs.Within.{entry_volume}
use Rattle.rents.proofs.raw.entry_volumes.Given as goal

abbrev pub invariant-loop-i : goal.invariant-loop-i
invariant-loop-i l = FillLoop (replicate 64 0) 0 (map entry_volume l.entries) 64 l.i l.numbers
