use mathlib.Core.List.{map}
use Prim.Native.Nat.{◌-◌}
use lib.ListN.{replicate}
use Rattle.lists.specs.ByteLoopLaws.{FillLoop}
use Rattle.sound_rows.specs.Numbers.{volume_width}
use Rattle.sound_rows.proofs.numbers.volume_widths.Given as goal

abbrev pub invariant-loop-i : goal.invariant-loop-i
invariant-loop-i l = FillLoop (replicate 8 0) 0 (map volume_width l.rows) 8 l.i l.widths
