use Rattle.sound_rows.proofs.PlaceLaws.{among_yes, among_no}
use Rattle.sound_rows.proofs.placements.among.Goals.{else-numbers-i, then-numbers-i}
use Rattle.sound_rows.proofs.placements.among.Goals as goal

pub loop-i-preserved : goal.loop-i-preserved
loop-i-preserved c = elim c.if-numbers-i.branch [ then-numbers-i w ↦ search among_yes | else-numbers-i w ↦ search among_no ]
