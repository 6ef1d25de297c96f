-- `raw::entry_sizes` meets its contract: after i turns the first i sizes are stored. Assumes nothing.
use mathlib.Core.List.{map}
use lib.ListN.{replicate}
use Rattle.lists.specs.ByteLoopLaws.{FillLoop}
use Rattle.rules.specs.Rent.{size_of}
use Rattle.rents.proofs.raw.entry_sizes.Given as goal

abbrev pub invariant-loop-i : goal.invariant-loop-i
invariant-loop-i l = FillLoop (replicate 64 0) 0 (map size_of l.entries) 64 l.i l.sizes
