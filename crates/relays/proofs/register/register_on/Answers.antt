-- `register_on` meets its contract: what is made of the table is the rule's. Assumes nothing.
use Rattle.lists.specs.RowLaws.{rows_length}
use Rattle.relays.proofs.RowAnswers.{register_changes, register_place}
use Rattle.relays.proofs.register.register_on.Goals as goal

pub change_on-requires : goal.change_on-requires
change_on-requires c = search (register_place, rows_length)

pub returns : goal.returns
returns c = search register_changes
