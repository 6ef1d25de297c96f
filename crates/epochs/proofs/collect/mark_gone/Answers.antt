use Rattle.lists.specs.ByteLoopLaws.{Fills-of}
use Rattle.epochs.proofs.collect.mark_gone.Goals as goal

pub loop-i-preserved : goal.loop-i-preserved
loop-i-preserved c = search Fills-of
