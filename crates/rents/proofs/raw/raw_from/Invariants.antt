-- `raw::raw_from` meets its contract: before each number, what was added so far and the rest are the whole. Assumes nothing.
use lib.ListN.{length}
use Rattle.rents.proofs.RawLaws.{RawLoop}
use Rattle.rents.proofs.raw.raw_from.Given as goal

abbrev pub invariant-loop-number : goal.invariant-loop-number
invariant-loop-number l = RawLoop l.n l.numbers l.sizes (length l.yielded) l.sum
