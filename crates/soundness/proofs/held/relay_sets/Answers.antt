-- `held::relay_sets` meets its contract: the numbers are those of the relays. Assumes nothing.
use Rattle.soundness.proofs.HeldLaws.{relays_held}
use Rattle.soundness.proofs.held.relay_sets.Goals as goal

pub returns : goal.returns
returns c = search relays_held
