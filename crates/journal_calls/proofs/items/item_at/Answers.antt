use Rattle.journal_calls.proofs.ItemAnswers.{items}
use Rattle.journal_calls.proofs.items.item_at.Goals as goal

pub returns-then-journal-p : goal.returns-then-journal-p
returns-then-journal-p c = search items

pub overflow_add-result : goal.overflow_add-result
overflow_add-result c = search items
