-- `within::kept_bytes` meets its contract: the loop of a sum over the first rows. Assumes nothing.
use lib.ListN.{take}
use Rattle.lists.specs.LoopLaws.{SumLoop}
use Rattle.kept_commits.specs.KeptLimits.{kept_size}
use Rattle.kept_commits.proofs.within.kept_bytes.Given as goal

abbrev pub invariant-loop-i : goal.invariant-loop-i
invariant-loop-i l = SumLoop kept_size (take l.count l.puts) l.count l.i l.sum
