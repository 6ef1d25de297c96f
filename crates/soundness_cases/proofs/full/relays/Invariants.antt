-- The number follows the place, so it does not wrap.
use Rattle.std.proofs.Common.{◌≡◌, ◌+◌}
use Rattle.soundness_cases.proofs.full.relays.Given as goal

abbrev pub invariant-loop-i : goal.invariant-loop-i
invariant-loop-i l = l.n ≡ l.i + 1
