-- `sizes::staged_bytes` meets its contract: the loop of a sum over the first rows. Assumes nothing.
use lib.ListN.{take}
use Rattle.lists.specs.LoopLaws.{SumLoop}
use Rattle.rules.specs.Commit.{put_size}
use Rattle.commits.proofs.sizes.staged_bytes.Given as goal

abbrev pub invariant-loop-i : goal.invariant-loop-i
invariant-loop-i l = SumLoop put_size (take l.count l.puts) l.count l.i l.sum
