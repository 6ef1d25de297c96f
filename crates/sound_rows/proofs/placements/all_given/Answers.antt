use Rattle.sound_rows.proofs.PlaceLaws.{each_no, each_yes}
use Rattle.sound_rows.proofs.placements.all_given.Goals.{else-not-is_given, then-not-is_given}
use Rattle.sound_rows.proofs.placements.all_given.Goals as goal

pub loop-i-preserved : goal.loop-i-preserved
loop-i-preserved c = elim c.if-not-is_given.branch [ then-not-is_given w ↦ search each_no | else-not-is_given w ↦ search each_yes ]
