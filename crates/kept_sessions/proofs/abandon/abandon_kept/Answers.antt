-- `abandon_kept` meets its contract: each return is that of its check. Assumes nothing.
use Rattle.rules.specs.SessionCalls.{abandon_rule}
use Rattle.lists.specs.AnswerLaws.{checks}
use Rattle.kept_sessions.proofs.KeptAnswers.{refuses, accepts_idle}
use Rattle.kept_sessions.proofs.abandon.abandon_kept.Goals as goal

pub returns-then-s-eq0 : goal.returns-then-s-eq0
unfolding abandon_rule
returns-then-s-eq0 c j t = search (checks, refuses)

pub returns : goal.returns
unfolding abandon_rule
returns c j t = search (checks, accepts_idle)
