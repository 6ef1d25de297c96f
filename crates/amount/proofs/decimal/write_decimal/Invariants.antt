-- So many digits are still to come.
use Rattle.amount.specs.WriteLaws.{Placing}
use Rattle.amount.proofs.decimal.write_decimal.Given as goal

abbrev pub invariant-loop-i : goal.invariant-loop-i
invariant-loop-i l = Placing l.fn.buf l.n l.i l.rest l.buf
