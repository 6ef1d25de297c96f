-- n is the number of the bytes so far.
use Rattle.std.proofs.Common.{◌≡◌, take}
use Rattle.journal.specs.Numbers.{number_of}
use Rattle.journal.proofs.numbers.number.Given as goal

abbrev pub invariant-loop-b : goal.invariant-loop-b
invariant-loop-b l = l.n ≡ number_of (take l.b-index l.part)
