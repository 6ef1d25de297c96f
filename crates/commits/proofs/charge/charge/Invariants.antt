-- `charge::charge` meets its contract: row by row. Assumes nothing.
use mathlib.Core.List.{map}
use Rattle.lists.specs.ByteLoopLaws.{FillLoop}
use Rattle.commits.proofs.QuotaLaws.{charged_by}
use Rattle.commits.proofs.charge.charge.Given as goal

abbrev pub invariant-loop-i : goal.invariant-loop-i
invariant-loop-i l = FillLoop l.rows 0 (map (charged_by l.numbers l.bytes) l.rows) 32 l.i l.out
