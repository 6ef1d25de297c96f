use Rattle.placing.proofs.LoadLaws.{loads}
use Rattle.placing.proofs.loading.load.Goals as goal

pub returns-in_err-out : goal.returns-in_err-out
returns-in_err-out c = search (loads, c.in_err-out.was, c.from_residual.ensures)

pub loop-i-preserved : goal.loop-i-preserved
loop-i-preserved c = search (loads, c.in_ok-out.was)

pub returns : goal.returns
returns c = search loads
