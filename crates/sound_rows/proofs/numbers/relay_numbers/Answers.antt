use Rattle.lists.specs.ByteLoopLaws.{Fills-of}
use Rattle.sound_rows.proofs.numbers.relay_numbers.Goals as goal

pub loop-i-preserved : goal.loop-i-preserved
loop-i-preserved c = search Fills-of
