-- `within::kept_within` meets its contract: the loop of a test of all rows. Assumes nothing.
use Rattle.lists.specs.LoopLaws.{AllLoop}
use Rattle.kept_commits.specs.KeptLimits.{within_kept}
use Rattle.kept_commits.proofs.within.kept_within.Given as goal

abbrev pub invariant-loop-i : goal.invariant-loop-i
invariant-loop-i l = AllLoop within_kept l.rows 32 l.i
