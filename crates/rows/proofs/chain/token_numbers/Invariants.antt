use Rattle.std.proofs.Common.{map, replicate}
use Rattle.lists.specs.ByteLoopLaws.{FillLoop}
use Rattle.rows.specs.Links.{token_number}
use Rattle.rows.proofs.chain.token_numbers.Given as goal

abbrev pub invariant-loop-i : goal.invariant-loop-i
invariant-loop-i l = FillLoop (replicate 32 0) 0 (map token_number l.rows) 32 l.i l.numbers
