-- `abandon_row` meets its contract: each return is that of its check. Assumes nothing.
use Rattle.rules.specs.SessionCalls.{abandon_rule}
use Rattle.lists.specs.AnswerLaws.{checks}
use Rattle.sessions.proofs.RowAnswers.{refuses, accepts}
use Rattle.sessions.proofs.abandon.abandon_row.Goals as goal

-- SESSION
pub returns-then-s-eq0 : goal.returns-then-s-eq0
unfolding abandon_rule
returns-then-s-eq0 c t = search (checks, refuses)

-- success
pub returns : goal.returns
unfolding abandon_rule
returns c t = search (checks, accepts)
