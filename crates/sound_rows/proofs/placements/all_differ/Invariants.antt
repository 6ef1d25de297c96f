use Prim.Native.Nat.{◌-◌}
use lib.ListN.{length}
use Rattle.lists.specs.LoopLaws.{ClashLoop}
use Rattle.sound_rows.specs.Places.{same_number}
use Rattle.sound_rows.proofs.placements.all_differ.Given as goal

abbrev pub invariant-loop-i : goal.invariant-loop-i
invariant-loop-i l = ClashLoop same_number l.numbers (length l.numbers) l.i
