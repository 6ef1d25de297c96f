-- `refuse` meets its contract: the outcome holds the parts as they came. Assumes nothing.
use Rattle.sessions.proofs.answers.refuse.Goals as goal

pub returns : goal.returns
returns c t = rw c.refusal-answer.ensures
