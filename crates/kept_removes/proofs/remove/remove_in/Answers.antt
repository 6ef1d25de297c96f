-- `remove::remove_in` meets its contract: each return is a check of the rule. Assumes nothing.
use Rattle.kept_removes.proofs.RemoveLaws.{in-answers}
use Rattle.kept_removes.proofs.remove.remove_in.Goals as goal

-- NOT_OWNER
pub returns-then-not-owned_by : goal.returns-then-not-owned_by
returns-then-not-owned_by c = search in-answers

-- STATE
pub returns-then-not-is_open : goal.returns-then-not-is_open
returns-then-not-is_open c = search in-answers

pub returns : goal.returns
returns c = search in-answers
