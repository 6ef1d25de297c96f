-- `open_row` meets its contract: each return is that of its check, and the last that of the token. Assumes nothing.
use Rattle.lists.specs.AnswerLaws.{checks}
use Rattle.sessions.proofs.RowAnswers.{refuses, open_none, open_at}
use Rattle.sessions.specs.Rows.{open_found}
use Rattle.sessions.proofs.open.open_row.Goals as goal

-- SESSION
pub returns-then-s-ne0 : goal.returns-then-s-ne0
unfolding open_found
returns-then-s-ne0 c t e f = search (checks, refuses)

-- NO_TOKEN
pub returns-then-not-there : goal.returns-then-not-there
unfolding open_found
returns-then-not-there c t e f = search (checks, open_none)

-- by the token
pub returns : goal.returns
unfolding open_found
returns c t e f = search (checks, open_at)
