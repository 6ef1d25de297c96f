-- `items::no_item` meets its contract: no fields. Assumes nothing.
use Rattle.journal_calls.proofs.ItemAnswers.{at_place}
use Rattle.journal_calls.proofs.items.no_item.Goals as goal

pub returns : goal.returns
returns c = search at_place
