use Prim.Native.Nat.{◌-◌}
use lib.ListN.{length}
use Rattle.rules.specs.Tables.{numbered}
use Rattle.lists.specs.LoopLaws.{ClashLoop}
use Rattle.sound_rows.proofs.numbers.numbers_differ.Given as goal

abbrev pub invariant-loop-i : goal.invariant-loop-i
invariant-loop-i l = ClashLoop numbered l.numbers (length l.numbers) l.i
