-- `advance::pass_rows` meets its contract: a bad block, volumes that cannot be settled, or volumes that were. Assumes nothing.
use Rattle.epochs.proofs.AdvanceLaws.{passes}
use Rattle.epochs.proofs.advance.pass_rows.Goals as goal

-- CLOCK
pub returns-then-bad_block : goal.returns-then-bad_block
returns-then-bad_block c t k q v l ow z = search passes

-- BAD
pub returns-in_default : goal.returns-in_default
returns-in_default c t k q v l ow z = search passes

pub returns : goal.returns
returns c t k q v l ow z = search passes
