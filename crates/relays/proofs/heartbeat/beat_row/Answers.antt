-- `beat_row` meets its contract: each return is that of its check. Assumes nothing.
use Rattle.lists.specs.AnswerLaws.{checks, said}
use Rattle.relays.specs.Rows.{heartbeat_to}
use Rattle.relays.proofs.RowAnswers.{row_given}
use Rattle.relays.proofs.heartbeat.beat_row.Goals as goal

-- success
pub returns : goal.returns
unfolding heartbeat_to
returns c = search (checks, said, row_given)
