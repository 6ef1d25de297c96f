-- `deposit_on` meets its contract: there is no row of the number, or it is the first one. Assumes nothing.
use Rattle.rules.specs.VolumeCalls.{deposit_rule, deposit_in}
use Rattle.rules.specs.Tables.{volume_of}
use Rattle.lists.specs.AnswerLaws.{in_table}
use Rattle.volumes.proofs.RowAnswers.{deposit_none, deposit_at}
use Rattle.volumes.proofs.deposit.deposit_on.Goals as goal

-- NO_VOLUME
pub returns-in_default : goal.returns-in_default
unfolding deposit_rule deposit_in volume_of
returns-in_default c = search deposit_none

pub deposit_at-requires : goal.deposit_at-requires
unfolding deposit_rule deposit_in volume_of
deposit_at-requires c = search in_table

-- by the volume
pub returns : goal.returns
unfolding deposit_rule deposit_in volume_of
returns c = search deposit_at
