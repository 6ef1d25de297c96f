-- `on_slot` meets its contract: there is no such slot, or there is. Assumes nothing.
use Rattle.journal_calls.proofs.ItemAnswers.{slot_none, slot_some}
use Rattle.journal_calls.proofs.items.on_slot.Goals as goal

pub returns-then-slot-ge4 : goal.returns-then-slot-ge4
returns-then-slot-ge4 c = search slot_none

pub returns : goal.returns
returns c = search slot_some
