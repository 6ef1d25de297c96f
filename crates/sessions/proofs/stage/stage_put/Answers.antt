-- `stage_put` meets its contract: the path has a place, or there is none left, or it takes the next. Assumes nothing.
use Rattle.rules.specs.SessionCalls.{stage_put}
use Rattle.lists.specs.AnswerLaws.{checks, row_in_part}
use Rattle.lists.specs.RowLaws.{rows_length}
use Rattle.sessions.proofs.RowAnswers.{refuses, accepts, put_none, put_at}
use borrow.Author.Rules.{rules}
use Rattle.sessions.proofs.stage.stage_put.Goals as goal

-- ROOM
pub returns-then-count-ge8 : goal.returns-then-count-ge8
unfolding stage_put
returns-then-count-ge8 c t = search (checks, put_none, refuses)

-- in the next place
pub returns-in_default : goal.returns-in_default
unfolding stage_put
returns-in_default c t = search (checks, put_none, accepts)

pub put_again-requires : goal.put_again-requires
unfolding stage_put
put_again-requires c = search (row_in_part, rows_length, rules)

-- in its old place
pub returns : goal.returns
unfolding stage_put
returns c t = search (put_at, accepts)
