-- The chain of a token in two lists, the numbers of the table's tokens and the numbers of their parents. Assumes nothing.
use Rattle.std.specs.Prelude.{Bool, cond, List, [], ◌∷◌, ℕ, zero, suc, get_or, Option, Some, None}
use Rattle.lists.specs.Lists.{Hit, hit, miss, first_at}
use Rattle.rules.specs.declared.Token.{Token}
use Rattle.rules.specs.Tables.{numbered}

abbrev pub token_number : Token → ℕ
token_number k = k.no.0

abbrev pub token_parent : Token → ℕ
token_parent k = k.parent.0

-- what follows the index that a search found, or nothing
abbrev pub on_found : (ℕ → List ℕ) → Option ℕ → List ℕ
on_found f (Some i) = f i
on_found f None = []

-- the number n and those of its ancestors, nearest first: at most m of them, as far as they are in the table
unfoldable pub chain_in : List ℕ → List ℕ → ℕ → ℕ → List ℕ
chain_in ns ps zero n = []
chain_in ns ps (suc m) n = on_found (λ i. get_or ns i 0 ∷ chain_in ns ps m (get_or ps i 0)) (first_at (numbered n) 0 ns)

-- the row k of a token if it is there, else none; no rule reads the index
abbrev pub row_if : Bool → Token → Hit Token
row_if there k = cond there (hit 0 k) miss
