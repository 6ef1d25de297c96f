use mathlib.Core.List.{map}
use Prim.Native.Nat.{◌-◌}
use lib.ListN.{replicate}
use Rattle.lists.specs.ByteLoopLaws.{FillLoop}
use Rattle.sound_rows.specs.Places.{place_number}
use Rattle.sound_rows.proofs.placements.place_numbers.Given as goal

abbrev pub invariant-loop-i : goal.invariant-loop-i
invariant-loop-i l = FillLoop (replicate 24 0) 0 (map place_number l.relays) l.n l.i l.numbers
