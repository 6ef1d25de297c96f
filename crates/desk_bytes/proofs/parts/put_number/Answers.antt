use Rattle.desk_bytes.proofs.OverLaws.{numbers}
use Rattle.desk_bytes.proofs.parts.put_number.Goals as goal

pub loop-i-preserved : goal.loop-i-preserved
loop-i-preserved c = search numbers

pub returns : goal.returns
returns c = search numbers
