-- `new_session` meets its contract: every put is a fresh one. Assumes nothing.
use Rattle.kept_sessions.proofs.open.new_session.Goals as goal

pub returns : goal.returns
returns c = rw c.fresh_kept_put-put.ensures
