use Rattle.lists.specs.ByteLoopLaws.{Fills-of}
use Rattle.sound_rows.proofs.numbers.volume_widths.Goals as goal

pub loop-i-preserved : goal.loop-i-preserved
loop-i-preserved c = search Fills-of
