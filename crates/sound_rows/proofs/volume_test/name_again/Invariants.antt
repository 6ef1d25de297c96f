use Prim.Native.Nat.{◌-◌}
use Rattle.rules.specs.Sound.{same_name}
use Rattle.lists.specs.LoopLaws.{AnyLoop}
use Rattle.sound_rows.proofs.volume_test.name_again.Given as goal

abbrev pub invariant-loop-i : goal.invariant-loop-i
invariant-loop-i l = AnyLoop (same_name l.a) l.rows l.start 8 l.i
