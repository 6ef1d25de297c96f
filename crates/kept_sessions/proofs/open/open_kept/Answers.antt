-- `open_kept` meets its contract: each return is that of its check, and the last that of the token. Assumes nothing.
use Rattle.lists.specs.AnswerLaws.{checks}
use Rattle.kept_sessions.proofs.KeptAnswers.{refuses, open_none, open_at}
use Rattle.sessions.specs.Rows.{open_found}
use Rattle.kept_sessions.proofs.open.open_kept.Goals as goal

pub returns-then-s-ne0 : goal.returns-then-s-ne0
unfolding open_found
returns-then-s-ne0 c j t e f = search (checks, refuses)

pub returns-then-not-there : goal.returns-then-not-there
unfolding open_found
returns-then-not-there c j t e f = search (checks, open_none)

pub returns : goal.returns
unfolding open_found
returns c j t e f = search (checks, open_at)
