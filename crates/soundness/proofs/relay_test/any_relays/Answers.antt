use Rattle.soundness.proofs.HeldLaws.{relays_any}
use Rattle.soundness.proofs.relay_test.any_relays.Goals as goal

pub returns : goal.returns
returns c = search relays_any
