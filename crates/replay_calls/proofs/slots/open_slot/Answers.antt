-- `open_slot` meets its contract: by the row of the token, if there is one. Assumes nothing.
use Rattle.replay_calls.proofs.DoneLaws.{opens_held}
use Rattle.replay_calls.proofs.slots.open_slot.Goals as goal

pub returns : goal.returns
returns c relays = search opens_held
