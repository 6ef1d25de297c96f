use mathlib.Core.List.{map}
use Prim.Native.Nat.{◌-◌}
use lib.ListN.{replicate}
use Rattle.lists.specs.ByteLoopLaws.{FillLoop}
use Rattle.sound_rows.specs.Numbers.{relay_number}
use Rattle.sound_rows.proofs.numbers.relay_numbers.Given as goal

abbrev pub invariant-loop-i : goal.invariant-loop-i
invariant-loop-i l = FillLoop (replicate 32 0) 0 (map relay_number l.rows) 32 l.i l.numbers
