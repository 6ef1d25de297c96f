-- `revoke::revoke_row` meets its contract: the row of its token, the row of its volume, then the owner. Assumes nothing.
use Rattle.lists.specs.AnswerLaws.{in_table}
use Rattle.tokens.proofs.RevokeLaws.{revoke_missed, owner_none, owner_other, owner_drops}
use Rattle.tokens.proofs.revoke.revoke_row.Goals as goal

-- NO_TOKEN
pub returns-then-not-there : goal.returns-then-not-there
returns-then-not-there c t m v e f = search revoke_missed

-- NOT_OWNER
pub returns-in_default : goal.returns-in_default
returns-in_default c t m v e f = search owner_none

pub offset_bounds-volumes-j : goal.offset_bounds-volumes-j
offset_bounds-volumes-j c = search in_table

pub bounds-volumes-j : goal.bounds-volumes-j
bounds-volumes-j c = search in_table

-- NOT_OWNER
pub returns-then-not-owned_by : goal.returns-then-not-owned_by
returns-then-not-owned_by c t m v e f = search owner_other

-- success
pub returns : goal.returns
returns c t m v e f = search owner_drops
