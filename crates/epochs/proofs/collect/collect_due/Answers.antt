-- `collect::collect_due` meets its contract: the marked entries go with their room, and so do the tokens and rows of the volumes that are due. Assumes nothing.
use Rattle.epochs.proofs.AdvanceLaws.{collects}
use Rattle.epochs.proofs.collect.collect_due.Goals as goal

pub returns : goal.returns
returns c = search collects
