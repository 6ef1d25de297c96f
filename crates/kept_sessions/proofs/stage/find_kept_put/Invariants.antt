-- `find_kept_put` meets its contract: no put before i passes. Assumes nothing.
use Prim.Native.Nat.{◌-◌}
use lib.ListN.{take}
use Rattle.lists.specs.LoopLaws.{FindLoop}
use Rattle.kept_sessions.specs.Parts.{is_kept_put}
use Rattle.kept_sessions.proofs.stage.find_kept_put.Given as goal

abbrev pub invariant-loop-i : goal.invariant-loop-i
invariant-loop-i l = FindLoop (is_kept_put l.journal l.path) (take l.count l.rows) l.n l.i
