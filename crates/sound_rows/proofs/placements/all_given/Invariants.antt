use Prim.Native.Nat.{◌-◌}
use lib.ListN.{length}
use Rattle.rules.specs.Sound.{is_given}
use Rattle.sound_rows.proofs.PlaceLaws.{EachLoop}
use Rattle.sound_rows.proofs.placements.all_given.Given as goal

abbrev pub invariant-loop-i : goal.invariant-loop-i
invariant-loop-i l = EachLoop (is_given l.last) l.numbers l.i l.all
