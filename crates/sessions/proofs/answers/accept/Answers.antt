-- `accept` meets its contract: the outcome holds the parts that it was given. Assumes nothing.
use Rattle.sessions.proofs.answers.accept.Goals as goal

pub returns : goal.returns
returns c t = rw c.success-answer.ensures
