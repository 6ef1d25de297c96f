-- `due::due_number` meets its contract. Assumes nothing.
use Rattle.epochs.proofs.DueLaws.{due_is, not_due}
use Rattle.epochs.proofs.due.due_number.Goals as goal

pub returns-then-is_due : goal.returns-then-is_due
returns-then-is_due c = search due_is

pub returns-else-is_due : goal.returns-else-is_due
returns-else-is_due c = search not_due
