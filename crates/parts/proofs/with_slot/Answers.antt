-- `with_slot` meets its contract: the slot is stored, where there is one. Assumes nothing.
use Rattle.lists.specs.RowLaws.{rows_length}
use Rattle.parts.proofs.SlotLaws.{set_past}
use borrow.Author.Rules.{rules}
use Rattle.parts.proofs.with_slot.Goals as goal

pub returns-then-slot-ge4 : goal.returns-then-slot-ge4
returns-then-slot-ge4 c = search (set_past, rows_length, rules)
