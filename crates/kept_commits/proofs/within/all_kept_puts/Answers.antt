use Rattle.lists.specs.LoopLaws.{alls-part}
use Rattle.kept_commits.proofs.KeepLaws.{put_over, put_under}
use Rattle.kept_commits.proofs.within.all_kept_puts.Goals as goal

pub returns-then-puts-i-gt68719476736 : goal.returns-then-puts-i-gt68719476736
returns-then-puts-i-gt68719476736 c = search (put_over, alls-part)

pub loop-i-preserved : goal.loop-i-preserved
loop-i-preserved c = search (put_under, alls-part)

pub returns : goal.returns
returns c = search alls-part
