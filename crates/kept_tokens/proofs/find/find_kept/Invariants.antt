-- `find::find_kept` meets its contract: the loop of a search, which reads the numbers. Assumes nothing.
use Prim.Native.Nat.{◌-◌}
use Rattle.lists.specs.LoopLaws.{FindLoop}
use Rattle.kept_tokens.specs.KeptTokens.{is_kept}
use Rattle.kept_tokens.proofs.find.find_kept.Given as goal

abbrev pub invariant-loop-i : goal.invariant-loop-i
invariant-loop-i l = FindLoop (is_kept l.n) l.rows 32 l.i
