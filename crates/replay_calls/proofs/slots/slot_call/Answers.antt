-- `slot_call` meets its contract: by the call. Assumes nothing.
use Rattle.replay_calls.proofs.DoneLaws.{opening, staging, abandoning}
use Rattle.replay_calls.proofs.slots.slot_call.Goals as goal

pub returns-in-Open : goal.returns-in-Open
returns-in-Open c = search opening

pub returns-in-Stage : goal.returns-in-Stage
returns-in-Stage c = search staging

pub returns-in-Abandon : goal.returns-in-Abandon
returns-in-Abandon c = search abandoning
