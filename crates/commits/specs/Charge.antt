-- The numbers of the tokens that a commit is charged to. Assumes nothing.
use Rattle.std.specs.Prelude.{List, map, ℕ, replicate}
use Rattle.std.proofs.Math.Seq.{paste}
use Rattle.rules.specs.declared.Token.{Token}
use Rattle.rows.specs.Links.{token_number}

-- those of the first k tokens, in 8 places, and zeros after them
unfoldable pub numbers_of : List Token → ℕ → List ℕ
numbers_of l k = paste (replicate 8 0) 0 (map token_number l) k
