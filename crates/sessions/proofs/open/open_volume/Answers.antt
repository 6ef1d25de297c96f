-- `open_volume` meets its contract: each return is that of its check, and success holds the new session. Assumes nothing.
use Rattle.rules.specs.SessionCalls.{open_volume}
use Rattle.lists.specs.AnswerLaws.{checks}
use Rattle.sessions.proofs.RowAnswers.{refuses, accepts}
use Rattle.sessions.proofs.open.open_volume.Goals as goal

-- STATE
pub returns-then-not-is_active : goal.returns-then-not-is_active
unfolding open_volume
returns-then-not-is_active c t = search (checks, refuses)

-- success
pub returns : goal.returns
unfolding open_volume
returns c t = search (checks, accepts)
