-- `delete_call` meets its contract: by the kept tokens. Assumes nothing.
use Rattle.replay_calls.proofs.DoneLaws.{deletes}
use Rattle.replay_calls.proofs.volume_calls.delete_call.Goals as goal

pub returns : goal.returns
returns c = search deletes
