use Rattle.soundness.proofs.HeldLaws.{set_skipped, set_stored}
use Rattle.soundness.proofs.held.held_sets.Goals.{else-e-ne0, then-e-ne0}
use Rattle.soundness.proofs.held.held_sets.Goals as goal

pub loop-i-preserved : goal.loop-i-preserved
loop-i-preserved c = elim c.if-e-ne0.branch [ then-e-ne0 w ↦ search set_stored | else-e-ne0 w ↦ search set_skipped ]
