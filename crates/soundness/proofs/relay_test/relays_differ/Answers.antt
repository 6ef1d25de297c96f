use Rattle.soundness.proofs.HeldLaws.{relays_apart}
use Rattle.soundness.proofs.relay_test.relays_differ.Goals as goal

pub returns : goal.returns
returns c = search relays_apart
