use Rattle.lists.specs.ByteLoopLaws.{Fills-of}
use Rattle.kept.proofs.decode.entries_in.Goals as goal

pub loop-i-preserved : goal.loop-i-preserved
loop-i-preserved c = search Fills-of
