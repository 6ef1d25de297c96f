-- `charge::numbers_of` meets its contract: after j turns the first j numbers stand there. Assumes nothing.
use mathlib.Core.List.{map}
use lib.ListN.{replicate}
use Rattle.lists.specs.ByteLoopLaws.{FillLoop}
use Rattle.rows.specs.Links.{token_number}
use Rattle.commits.proofs.charge.numbers_of.Given as goal

abbrev pub invariant-loop-j : goal.invariant-loop-j
invariant-loop-j l = FillLoop (replicate 8 0) 0 (map token_number l.tokens) l.count l.j l.numbers
