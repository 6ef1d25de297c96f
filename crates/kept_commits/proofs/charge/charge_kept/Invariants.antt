-- `charge::charge_kept` meets its contract: row by row. Assumes nothing.
use mathlib.Core.List.{map}
use Rattle.lists.specs.ByteLoopLaws.{FillLoop}
use Rattle.kept_commits.proofs.TokenLaws.{kept_by}
use Rattle.kept_commits.proofs.charge.charge_kept.Given as goal

abbrev pub invariant-loop-i : goal.invariant-loop-i
invariant-loop-i l = FillLoop l.rows 0 (map (kept_by l.numbers l.bytes) l.rows) 32 l.i l.out
