use Rattle.soundness.proofs.HeldLaws.{held}
use Rattle.soundness.proofs.held.places_set.Goals as goal

pub loop-p-init : goal.loop-p-init
loop-p-init c = search held

pub loop-p-preserved : goal.loop-p-preserved
loop-p-preserved c = search held
