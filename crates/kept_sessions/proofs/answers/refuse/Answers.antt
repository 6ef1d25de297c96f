-- `refuse` meets its contract: the outcome holds the session as it came. Assumes nothing.
use Rattle.kept_sessions.proofs.answers.refuse.Goals as goal

pub returns : goal.returns
returns c j t = rw c.refusal-answer.ensures
