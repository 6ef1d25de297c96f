-- The number and the byte follow the place, so neither of them wraps.
use Rattle.std.proofs.Common.{◌≡◌, ◌+◌}
use Rattle.soundness_cases.proofs.full.volumes.Given as goal

abbrev pub invariant-loop-i : goal.invariant-loop-i
invariant-loop-i l = (l.n ≡ l.i + 1) × (l.byte ≡ l.i + 97)
