use Rattle.lists.specs.LoopLaws.{anys}
use Rattle.sound_rows.proofs.volume_test.name_again.Goals as goal

pub returns-then-same_name : goal.returns-then-same_name
returns-then-same_name c = search anys

pub loop-i-preserved : goal.loop-i-preserved
loop-i-preserved c = search anys
