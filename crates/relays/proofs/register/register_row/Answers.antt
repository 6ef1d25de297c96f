-- `register_row` meets its contract: each return is that of its check, and the last that of the free row. Assumes nothing.
use Rattle.lists.specs.AnswerLaws.{checks}
use Rattle.relays.specs.Rows.{register_at, register_row}
use Rattle.relays.proofs.RowAnswers.{new_none, new_at, row_given}
use Rattle.relays.proofs.register.register_row.Goals as goal

-- ROOM
pub returns-in_default : goal.returns-in_default
unfolding register_row register_at
returns-in_default c = search (checks, new_none)

-- success
pub returns : goal.returns
unfolding register_row register_at
returns c = search (checks, new_at, row_given)
