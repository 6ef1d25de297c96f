-- `delete_kept` meets its contract: there is no row of the number, or it is the first one. Assumes nothing.
use Rattle.lists.specs.AnswerLaws.{in_table}
use Rattle.kept_calls.proofs.DeleteLaws.{delete_none, delete_found}
use Rattle.kept_calls.proofs.delete.delete_kept.Goals as goal

-- NO_VOLUME
pub returns-in_default : goal.returns-in_default
returns-in_default c j t f v k = search delete_none

pub delete_at-requires : goal.delete_at-requires
delete_at-requires c = search in_table

-- by the volume
pub returns : goal.returns
returns c j t f v k = search delete_found
