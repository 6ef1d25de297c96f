-- `open_volume` meets its contract: each return is that of its check, and success holds the new session. Assumes nothing.
use Rattle.rules.specs.SessionCalls.{open_volume}
use Rattle.lists.specs.AnswerLaws.{checks}
use Rattle.kept_sessions.proofs.KeptAnswers.{refuses, accepts_opened}
use Rattle.kept_sessions.proofs.open.open_volume.Goals as goal

pub returns-then-not-is_active : goal.returns-then-not-is_active
unfolding open_volume
returns-then-not-is_active c j t = search (checks, refuses)

pub returns : goal.returns
unfolding open_volume
returns c j t = search (checks, accepts_opened)
