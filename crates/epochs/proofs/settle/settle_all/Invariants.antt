-- `settle::settle_all` meets its contract: after i turns the first i volumes are settled. Assumes nothing.
use Rattle.epochs.proofs.SettleLaws.{SettleLoop}
use Rattle.epochs.proofs.settle.settle_all.Given as goal

abbrev pub invariant-loop-i : goal.invariant-loop-i
invariant-loop-i l = SettleLoop l.rate l.rows l.numbers l.sizes 8 l.i l.out
