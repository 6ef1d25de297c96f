-- `attenuate::attenuate_on` meets its contract: the row of the parent, where there is one. Assumes nothing.
use Rattle.lists.specs.AnswerLaws.{in_table}
use Rattle.tokens.proofs.AttenuateLaws.{attenuate_missed, attenuate_found_lem}
use Rattle.tokens.proofs.attenuate.attenuate_on.Goals as goal

-- no such token
pub returns-in_default : goal.returns-in_default
returns-in_default c = search attenuate_missed

pub offset_bounds-rows-j : goal.offset_bounds-rows-j
offset_bounds-rows-j c = search in_table

pub bounds-rows-j : goal.bounds-rows-j
bounds-rows-j c = search in_table

-- by the parent
pub returns : goal.returns
returns c = search attenuate_found_lem
