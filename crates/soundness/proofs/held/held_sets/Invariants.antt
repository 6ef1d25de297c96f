-- `held::held_sets` meets its contract: after i turns the sets of the first i entries are stored. Assumes nothing.
use mathlib.Core.List.{map}
use Prim.Native.Nat.{◌-◌}
use lib.ListN.{replicate}
use Rattle.lists.specs.ByteLoopLaws.{FillLoop}
use Rattle.soundness.specs.Held.{held_set}
use Rattle.soundness.proofs.held.held_sets.Given as goal

abbrev pub invariant-loop-i : goal.invariant-loop-i
invariant-loop-i l = FillLoop (replicate 64 0) 0 (map (held_set l.numbers) l.rows) 64 l.i l.sets
