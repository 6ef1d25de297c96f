-- `tokens_in` meets its contract: the rows before i are decoded. Assumes nothing.
use mathlib.Core.List.{map}
use Prim.Native.Nat.{◌-◌}
use lib.ListN.{replicate}
use Rattle.lists.specs.ByteLoopLaws.{FillLoop}
use Rattle.rules.specs.Fresh.{fresh_token}
use Rattle.kept.specs.Kept.{token_in}
use Rattle.kept.proofs.decode.tokens_in.Given as goal

abbrev pub invariant-loop-i : goal.invariant-loop-i
invariant-loop-i l = FillLoop (replicate 32 fresh_token) 0 (map (token_in l.journal) l.rows) 32 l.i l.tokens
