-- `collect_call` meets its contract: by the kept rows. Assumes nothing.
use Rattle.replay_calls.proofs.DoneLaws.{collects}
use Rattle.replay_calls.proofs.advances.collect_call.Goals as goal

pub returns : goal.returns
returns c = search collects
