-- `entry_lists` meets its contract. Assumes nothing.
use Rattle.replay_calls.proofs.DoneLaws.{lists_made}
use Rattle.replay_calls.proofs.advances.entry_lists.Goals as goal

pub returns : goal.returns
returns c = search lists_made
