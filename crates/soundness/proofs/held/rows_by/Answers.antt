use Rattle.soundness.proofs.HeldLaws.{slots-made}
use Rattle.soundness.proofs.held.rows_by.Goals as goal

pub loop-i-init : goal.loop-i-init
loop-i-init c = search slots-made

pub loop-i-preserved : goal.loop-i-preserved
loop-i-preserved c = search slots-made
