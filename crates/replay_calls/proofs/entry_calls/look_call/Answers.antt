-- `look_call` meets its contract: by the kept tokens and entries. Assumes nothing.
use Rattle.replay_calls.proofs.DoneLaws.{looks}
use Rattle.replay_calls.proofs.entry_calls.look_call.Goals as goal

pub returns : goal.returns
returns c = search looks
