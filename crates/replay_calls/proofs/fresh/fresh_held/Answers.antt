-- `fresh_held` meets its contract: every row is a fresh one. Assumes nothing.
use Rattle.replay_calls.proofs.DoneLaws.{held_made}
use Rattle.replay_calls.proofs.fresh.fresh_held.Goals as goal

pub returns : goal.returns
returns c = search held_made
