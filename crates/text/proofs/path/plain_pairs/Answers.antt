use Rattle.text.specs.PlainLaws.{pairs}
use Rattle.text.proofs.path.plain_pairs.Goals as goal

pub loop-i-preserved : goal.loop-i-preserved
loop-i-preserved c = search pairs

pub returns : goal.returns
returns c = search pairs
