-- `delete_on` meets its contract: there is no row of the number, or it is the first one. Assumes nothing.
use Rattle.rules.specs.VolumeCalls.{delete_rule, delete_in}
use Rattle.rules.specs.Tables.{volume_of}
use Rattle.lists.specs.AnswerLaws.{in_table}
use Rattle.volumes.proofs.RowAnswers.{delete_none, delete_at}
use Rattle.volumes.proofs.delete.delete_on.Goals as goal

-- NO_VOLUME
pub returns-in_default : goal.returns-in_default
unfolding delete_rule delete_in volume_of
returns-in_default c = search delete_none

pub delete_at-requires : goal.delete_at-requires
unfolding delete_rule delete_in volume_of
delete_at-requires c = search in_table

-- by the volume
pub returns : goal.returns
unfolding delete_rule delete_in volume_of
returns c = search delete_at
