-- `slot_of` meets its contract: the row of the slot, or an idle session. Assumes nothing.
use Rattle.lists.specs.RowLaws.{rows_length, same_row}
use Rattle.parts.proofs.SlotLaws.{slot_past}
use borrow.Author.Rules.{rules}
use Rattle.parts.proofs.slot_of.Goals as goal

pub returns-then-slot-ge4 : goal.returns-then-slot-ge4
returns-then-slot-ge4 c = search (slot_past, rows_length, rules)

pub returns : goal.returns
returns c = search (same_row, rows_length, rules)
