use Rattle.commits.proofs.SizeLaws.{stages}
use Rattle.commits.proofs.sizes.staged_bytes.Goals as goal

pub overflow_add-sum : goal.overflow_add-sum
overflow_add-sum c = search stages

pub loop-i-preserved : goal.loop-i-preserved
loop-i-preserved c = search stages

pub returns : goal.returns
returns c = search stages
