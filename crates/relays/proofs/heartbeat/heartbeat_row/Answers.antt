-- `heartbeat_row` meets its contract: there is no row of the number, or it is the first one. Assumes nothing.
use Rattle.lists.specs.AnswerLaws.{in_table}
use Rattle.relays.specs.Rows.{heartbeat_to, heartbeat_row}
use Rattle.relays.proofs.RowAnswers.{beat_none, beat_at}
use Rattle.relays.proofs.heartbeat.heartbeat_row.Goals as goal

-- NO_RELAY
pub returns-in_default : goal.returns-in_default
unfolding heartbeat_row heartbeat_to
returns-in_default c = search beat_none

pub offset_bounds-rows-i : goal.offset_bounds-rows-i
offset_bounds-rows-i c = search in_table

pub bounds-rows-i : goal.bounds-rows-i
bounds-rows-i c = search in_table

pub returns : goal.returns
unfolding heartbeat_row heartbeat_to
returns c = search beat_at
