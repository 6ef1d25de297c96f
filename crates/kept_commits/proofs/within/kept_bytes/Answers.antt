use Rattle.kept_commits.proofs.KeepLaws.{kept-stages}
use Rattle.kept_commits.proofs.within.kept_bytes.Goals as goal

pub overflow_add-sum : goal.overflow_add-sum
overflow_add-sum c = search kept-stages

pub loop-i-preserved : goal.loop-i-preserved
loop-i-preserved c = search kept-stages

pub returns : goal.returns
returns c = search kept-stages
