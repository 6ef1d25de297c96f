-- `heartbeat_on` meets its contract: there is no row of the number, or it is the first one. Assumes nothing.
use Rattle.rules.specs.RelayCalls.{heartbeat_rule, heartbeat_in}
use Rattle.rules.specs.Tables.{relay_of}
use Rattle.lists.specs.AnswerLaws.{in_table}
use Rattle.relays.proofs.RowAnswers.{heartbeat_none, heartbeat_at_lem}
use Rattle.relays.proofs.heartbeat.heartbeat_on.Goals as goal

-- NO_RELAY
pub returns-in_default : goal.returns-in_default
unfolding heartbeat_rule heartbeat_in relay_of
returns-in_default c = search heartbeat_none

pub beat_at-requires : goal.beat_at-requires
unfolding heartbeat_rule heartbeat_in relay_of
beat_at-requires c = search in_table

-- by the relay
pub returns : goal.returns
unfolding heartbeat_rule heartbeat_in relay_of
returns c = search heartbeat_at_lem
