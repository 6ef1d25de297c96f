-- `remove_call` meets its contract: by the kept entries. Assumes nothing.
use Rattle.replay_calls.proofs.DoneLaws.{removes}
use Rattle.replay_calls.proofs.entry_calls.remove_call.Goals as goal

pub returns : goal.returns
returns c = search removes
