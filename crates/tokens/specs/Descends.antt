-- Whether a token is the token n or descends from it, in the lists of the tokens' numbers and of their parents' numbers. Assumes nothing.
use Rattle.std.specs.Prelude.{Bool, ◌&&◌, ◌||◌, List, ℕ}
use Rattle.lists.specs.Lists.{any_of}
use Rattle.rules.specs.Tables.{given, numbered}
use Rattle.rows.specs.Links.{chain_in}

-- n is the number k, or one of the chain that goes on from k's parent p: at most 8 tokens with k
unfoldable pub in_chain : List ℕ → List ℕ → ℕ → ℕ → ℕ → Bool
in_chain ns ps n k p = numbered n k || any_of (numbered n) (chain_in ns ps 7 p)

-- the same of a row in use
unfoldable pub descends_in : List ℕ → List ℕ → ℕ → ℕ → ℕ → Bool
descends_in ns ps n k p = given k && in_chain ns ps n k p
