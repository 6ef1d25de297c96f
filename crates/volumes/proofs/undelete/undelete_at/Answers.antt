-- `undelete_at` meets its contract: each return is that of its check, and success holds the new row. Assumes nothing.
use Rattle.rules.specs.VolumeCalls.{undelete_in}
use Rattle.lists.specs.AnswerLaws.{checks, said}
use Rattle.volumes.proofs.RowAnswers.{accepts_row}
use Rattle.volumes.proofs.undelete.undelete_at.Goals as goal

-- success
pub returns : goal.returns
unfolding undelete_in
returns c = search (checks, said, accepts_row)
