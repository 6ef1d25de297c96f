use Rattle.placing.proofs.ChooseLaws.{numbers}
use Rattle.placing.proofs.choose.first_numbers.Goals as goal

pub loop-i-preserved : goal.loop-i-preserved
loop-i-preserved c = search numbers

pub returns : goal.returns
returns c = search numbers
