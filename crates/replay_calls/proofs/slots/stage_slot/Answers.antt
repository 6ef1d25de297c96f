-- `stage_slot` meets its contract: by the row of the token, if there is one. Assumes nothing.
use Rattle.replay_calls.proofs.DoneLaws.{stages_held}
use Rattle.replay_calls.proofs.slots.stage_slot.Goals as goal

pub returns : goal.returns
returns c = search stages_held
