-- `settle::settle_row` meets its contract: a free row stays, and another is settled where its rent is worked out and its grace count has room. Assumes nothing.
use Rattle.epochs.proofs.SettleLaws.{settles-row}
use Rattle.epochs.proofs.settle.settle_row.Goals as goal

pub returns-then-v-eq0 : goal.returns-then-v-eq0
returns-then-v-eq0 c = search settles-row

pub returns-in_err-rent : goal.returns-in_err-rent
returns-in_err-rent c = search (settles-row, c.in_err-rent.was, c.from_residual.ensures)

pub returns-then-v-ge255 : goal.returns-then-v-ge255
returns-then-v-ge255 c = search (settles-row, c.in_ok-rent.was)

pub returns : goal.returns
returns c = search (settles-row, c.in_ok-rent.was)
