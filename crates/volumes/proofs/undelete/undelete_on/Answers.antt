-- `undelete_on` meets its contract: there is no row of the number, or it is the first one. Assumes nothing.
use Rattle.rules.specs.VolumeCalls.{undelete_rule, undelete_in}
use Rattle.rules.specs.Tables.{volume_of}
use Rattle.lists.specs.AnswerLaws.{in_table}
use Rattle.volumes.proofs.RowAnswers.{undelete_none, undelete_at}
use Rattle.volumes.proofs.undelete.undelete_on.Goals as goal

-- NO_VOLUME
pub returns-in_default : goal.returns-in_default
unfolding undelete_rule undelete_in volume_of
returns-in_default c = search undelete_none

pub undelete_at-requires : goal.undelete_at-requires
unfolding undelete_rule undelete_in volume_of
undelete_at-requires c = search in_table

-- by the volume
pub returns : goal.returns
unfolding undelete_rule undelete_in volume_of
returns c = search undelete_at
