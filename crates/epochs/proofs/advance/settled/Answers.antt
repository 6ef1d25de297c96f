-- `advance::settled` meets its contract: settled where an epoch ends. Assumes nothing.
use Rattle.epochs.proofs.AdvanceLaws.{within_epoch, at_end}
use Rattle.epochs.proofs.advance.settled.Goals as goal

pub returns-then-epoch_ends-lt1 : goal.returns-then-epoch_ends-lt1
returns-then-epoch_ends-lt1 c = search within_epoch

pub returns : goal.returns
returns c = search at_end
