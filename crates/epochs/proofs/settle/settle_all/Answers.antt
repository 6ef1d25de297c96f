use Rattle.epochs.proofs.SettleLaws.{settles}
use Rattle.epochs.proofs.settle.settle_all.Goals as goal

pub returns-in_err-out : goal.returns-in_err-out
returns-in_err-out c = search (settles, c.in_err-out.was, c.from_residual.ensures)

pub loop-i-preserved : goal.loop-i-preserved
loop-i-preserved c = search (settles, c.in_ok-out.was)

pub returns : goal.returns
returns c = search settles
