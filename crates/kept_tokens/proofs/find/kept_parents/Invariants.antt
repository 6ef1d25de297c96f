-- `find::kept_parents` meets its contract: row by row. Assumes nothing.
use mathlib.Core.List.{map}
use Prim.Native.Nat.{◌-◌}
use lib.ListN.{replicate}
use Rattle.lists.specs.ByteLoopLaws.{FillLoop}
use Rattle.kept_tokens.specs.KeptTokens.{kept_parent}
use Rattle.kept_tokens.proofs.find.kept_parents.Given as goal

abbrev pub invariant-loop-i : goal.invariant-loop-i
invariant-loop-i l = FillLoop (replicate 32 0) 0 (map kept_parent l.rows) 32 l.i l.parents
