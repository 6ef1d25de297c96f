-- The next byte of the record is one of its bytes.
use Rattle.std.proofs.Common.{◌<◌, length}
use Rattle.replay_cases.proofs.fill.Given as goal

abbrev pub invariant-loop-i : goal.invariant-loop-i
invariant-loop-i l = l.k < length l.bytes
