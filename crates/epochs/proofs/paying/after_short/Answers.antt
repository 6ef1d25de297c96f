-- `paying::after_short` meets its contract: each return is that of its status. Assumes nothing.
use Rattle.epochs.proofs.PayLaws.{pays}
use Rattle.epochs.proofs.paying.after_short.Goals as goal

pub returns-in-Active : goal.returns-in-Active
returns-in-Active c = search pays

pub returns-in-Grace : goal.returns-in-Grace
returns-in-Grace c = search pays

pub returns-in-Deleted : goal.returns-in-Deleted
returns-in-Deleted c = search pays
