-- `delete_at` meets its contract: each return is that of its check, and success holds the new row and the tokens that are left. Assumes nothing.
use Rattle.rules.specs.VolumeCalls.{delete_in}
use Rattle.lists.specs.AnswerLaws.{checks}
use Rattle.kept_calls.proofs.DeleteLaws.{delete_refuses, delete_accepts}
use Rattle.kept_calls.proofs.delete.delete_at.Goals as goal

-- NOT_OWNER
pub returns-then-not-owned_by : goal.returns-then-not-owned_by
unfolding delete_in
returns-then-not-owned_by c j t f v k = search (checks, delete_refuses)

-- STATE
pub returns-then-not-is_open : goal.returns-then-not-is_open
unfolding delete_in
returns-then-not-is_open c j t f v k = search (checks, delete_refuses)

-- success
pub returns : goal.returns
unfolding delete_in
returns c j t f v k = search (checks, delete_accepts)
