use Rattle.sound_rows.proofs.KeyLaws.{key_skipped, key_stored}
use Rattle.sound_rows.proofs.path_keys.path_keys.Goals.{else-e-ne0, then-e-ne0}
use Rattle.sound_rows.proofs.path_keys.path_keys.Goals as goal

pub loop-i-preserved : goal.loop-i-preserved
loop-i-preserved c = elim c.if-e-ne0.branch [ then-e-ne0 w ↦ search key_stored | else-e-ne0 w ↦ search key_skipped ]
