use Rattle.rows.specs.LinkLaws.{counts}
use Rattle.rows.proofs.chain.depth_in.Goals as goal

pub loop-n-init : goal.loop-n-init
loop-n-init c = search counts

pub returns-in_default : goal.returns-in_default
returns-in_default c = search counts

pub bounds-parents-i : goal.bounds-parents-i
bounds-parents-i c = search counts

pub loop-n-preserved : goal.loop-n-preserved
loop-n-preserved c = search counts

pub returns : goal.returns
returns c = search counts
