-- `placements::remainders_differ` meets its contract: a remainder that is met again ends it. Assumes nothing.
use Prim.Native.Nat.{◌-◌}
use lib.ListN.{length}
use Rattle.sound_rows.proofs.RemainderLaws.{SeenLoop}
use Rattle.sound_rows.proofs.placements.remainders_differ.Given as goal

abbrev pub invariant-loop-i : goal.invariant-loop-i
invariant-loop-i l = SeenLoop l.numbers l.i l.seen
