-- `delete_at` meets its contract: each return is that of its check, and success holds the new row and the tokens that are left. Assumes nothing.
use Rattle.rules.specs.VolumeCalls.{delete_in}
use Rattle.lists.specs.AnswerLaws.{checks}
use Rattle.volumes.proofs.RowAnswers.{accepts_delete}
use Rattle.volumes.proofs.delete.delete_at.Goals as goal

-- success
pub returns : goal.returns
unfolding delete_in
returns c = search (checks, accepts_delete)
