-- `stage_on` meets its contract: it answers as for the row that it finds, or as for none. Assumes nothing.
use Rattle.lists.specs.AnswerLaws.{in_table}
use Rattle.sessions.proofs.RowAnswers.{stages_none, stages_at}
use Rattle.sessions.proofs.stage.stage_on.Goals as goal

-- no row
pub returns-in_default : goal.returns-in_default
returns-in_default c = search stages_none

pub offset_bounds-rows-i : goal.offset_bounds-rows-i
offset_bounds-rows-i c = search in_table

pub bounds-rows-i : goal.bounds-rows-i
bounds-rows-i c = search in_table

-- the row
pub returns : goal.returns
returns c = search stages_at
