-- `change_on` meets its contract: the table as it was, or with the changed row. Assumes nothing.
use Rattle.relays.proofs.RowAnswers.{change_none, change_row}
use Rattle.relays.proofs.answers.change_on.Goals as goal

pub returns-then-not-o : goal.returns-then-not-o
returns-then-not-o c = search change_none

pub returns : goal.returns
returns c = search change_row
