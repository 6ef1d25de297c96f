use Prim.Native.Nat.{◌-◌}
use Rattle.rules.specs.Sound.{same_name}
use Rattle.lists.specs.LoopLaws.{ClashLoop}
use Rattle.sound_rows.proofs.volume_test.names_differ.Given as goal

abbrev pub invariant-loop-i : goal.invariant-loop-i
invariant-loop-i l = ClashLoop same_name l.rows 8 l.i
