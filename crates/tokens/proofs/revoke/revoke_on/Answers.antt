-- `revoke::revoke_on` meets its contract: the row of its token. Assumes nothing.
use Rattle.lists.specs.AnswerLaws.{in_table}
use Rattle.tokens.proofs.RevokeLaws.{revoke_none, revoke_found}
use Rattle.tokens.proofs.revoke.revoke_on.Goals as goal

-- NO_TOKEN
pub returns-in_default : goal.returns-in_default
returns-in_default c = search revoke_none

pub offset_bounds-rows-i : goal.offset_bounds-rows-i
offset_bounds-rows-i c = search in_table

pub bounds-rows-i : goal.bounds-rows-i
bounds-rows-i c = search in_table

-- by the token
pub returns : goal.returns
returns c = search revoke_found
