-- `accept` meets its contract: the outcome holds the session that it was given. Assumes nothing.
use Rattle.kept_sessions.proofs.answers.accept.Goals as goal

pub returns : goal.returns
returns c j t = rw c.success-answer.ensures
