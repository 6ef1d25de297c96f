-- `create_on` meets its contract: each return is that of its check, and the last that of the row. Assumes nothing.
use Rattle.rules.specs.VolumeCalls.{create_rule}
use Rattle.lists.specs.AnswerLaws.{checks, said}
use Rattle.volumes.proofs.RowAnswers.{whole_name}
use Rattle.volumes.proofs.create.create_on.Goals as goal

-- then its row
pub returns : goal.returns
unfolding create_rule
returns c = search (checks, said, whole_name)
