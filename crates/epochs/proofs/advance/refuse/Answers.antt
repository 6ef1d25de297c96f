-- `advance::refuse` meets its contract. Assumes nothing.
use Rattle.epochs.proofs.advance.refuse.Goals as goal

pub returns : goal.returns
returns c = cc
