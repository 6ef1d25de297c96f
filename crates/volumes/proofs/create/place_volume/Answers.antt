-- `place_volume` meets its contract: there is no free row, or it is the first one. Assumes nothing.
use Rattle.rules.specs.VolumeCalls.{create_in}
use Rattle.lists.specs.AnswerLaws.{in_table}
use Rattle.volumes.proofs.RowAnswers.{create_none, create_at}
use Rattle.volumes.proofs.create.place_volume.Goals as goal

-- ROOM
pub returns-in_default : goal.returns-in_default
unfolding create_in
returns-in_default c = search create_none

pub store_volume-requires : goal.store_volume-requires
unfolding create_in
store_volume-requires c = search in_table

-- success
pub returns : goal.returns
unfolding create_in
returns c = search create_at
