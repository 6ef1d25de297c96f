-- `set::eligible` meets its contract: before each row, the bits of the rows so far. Assumes nothing.
use Rattle.rules.specs.Relays.{is_eligible}
use Rattle.placing.proofs.SetLaws.{SetLoop}
use Rattle.placing.proofs.set.eligible.Given as goal

abbrev pub invariant-loop-i : goal.invariant-loop-i
invariant-loop-i l = SetLoop (is_eligible l.clock l.bytes) l.rows 32 l.i l.set
