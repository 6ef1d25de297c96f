use Prim.Native.Nat.{◌-◌}
use lib.ListN.{length}
use Rattle.sound_rows.proofs.PlaceLaws.{AmongLoop}
use Rattle.sound_rows.proofs.placements.among.Given as goal

abbrev pub invariant-loop-i : goal.invariant-loop-i
invariant-loop-i l = AmongLoop l.n l.numbers l.i l.found
