-- `relay_call` meets its contract: by the call. Assumes nothing.
use Rattle.journal_calls.proofs.CarryLaws.{registers, beats}
use Rattle.journal_calls.proofs.carry.relay_call.Goals as goal

pub returns-in-Register : goal.returns-in-Register
returns-in-Register c = search registers

pub returns-in-Heartbeat : goal.returns-in-Heartbeat
returns-in-Heartbeat c = search beats
