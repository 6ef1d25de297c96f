-- `due::is_due` meets its contract: each return is that of its status. Assumes nothing.
use Rattle.epochs.proofs.DueLaws.{dues}
use Rattle.epochs.proofs.due.is_due.Goals as goal

pub returns-then-v-eq0 : goal.returns-then-v-eq0
returns-then-v-eq0 c = search dues

pub returns-in-Active : goal.returns-in-Active
returns-in-Active c = search dues

pub returns-in-Grace : goal.returns-in-Grace
returns-in-Grace c = search dues

pub returns-in-Deleted : goal.returns-in-Deleted
returns-in-Deleted c = search dues
