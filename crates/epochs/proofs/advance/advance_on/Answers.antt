-- `advance::advance_on` meets its contract: what the first part left, after the collection where some volume is due. Assumes nothing.
use Rattle.epochs.proofs.AdvanceLaws.{advances}
use Rattle.epochs.proofs.advance.advance_on.Goals as goal

pub returns-then-not-passed : goal.returns-then-not-passed
returns-then-not-passed c = search advances

pub returns : goal.returns
returns c = search advances
