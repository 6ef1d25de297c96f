-- `stage_token` meets its contract: each return is that of its check, and a path that is one is stored whole. Assumes nothing.
use Rattle.rules.specs.SessionCalls.{stage_token}
use Rattle.lists.specs.AnswerLaws.{checks}
use Rattle.sessions.proofs.RowAnswers.{refuses, whole_path}
use Rattle.sessions.proofs.stage.stage_token.Goals as goal

-- PREFIX
pub returns-then-not-covers : goal.returns-then-not-covers
unfolding stage_token
returns-then-not-covers c t = search (checks, refuses)

-- then its place
pub returns : goal.returns
unfolding stage_token
returns c t = search (checks, whole_path)
