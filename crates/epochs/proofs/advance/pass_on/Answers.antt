-- `advance::pass_on` meets its contract: the parts are those of the tables. Assumes nothing.
use Rattle.epochs.proofs.AdvanceLaws.{whole_outcome, whole_due}
use Rattle.epochs.proofs.advance.pass_on.Goals as goal

pub returns : goal.returns
returns c = search (whole_outcome, whole_due)
