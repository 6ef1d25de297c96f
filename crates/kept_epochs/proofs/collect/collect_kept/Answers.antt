-- `collect::collect_kept` meets its contract: the marked entries go with their room, and so do the tokens and rows of the volumes that are due.
-- Assumes nothing.
use Rattle.kept_epochs.proofs.CollectLaws.{kept_collects}
use Rattle.kept_epochs.proofs.collect.collect_kept.Goals as goal

pub returns : goal.returns
returns c j t v e k l = search kept_collects
