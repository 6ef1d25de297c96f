-- `within::all_kept_puts` meets its contract: the loop of a test of the first rows. Assumes nothing.
use lib.ListN.{take}
use Rattle.lists.specs.LoopLaws.{AllLoop}
use Rattle.kept_commits.specs.KeptLimits.{put_kept}
use Rattle.kept_commits.proofs.within.all_kept_puts.Given as goal

abbrev pub invariant-loop-i : goal.invariant-loop-i
invariant-loop-i l = AllLoop put_kept (take l.count l.puts) l.count l.i
