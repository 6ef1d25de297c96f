-- The row of a token in a table of kept ones. Assumes nothing.
use Rattle.std.specs.Prelude.{Option, Some, None}
use mathlib.Core.Path.{◌≡◌, sym, ◌∙◌}
use mathlib.Core.List.{List}
use Prim.Native.Nat.{ℕ}
use lib.ListN.{get_or, get_or-map}
use Rattle.lists.specs.Lists.{first_at, find, hit, miss}
use Rattle.lists.specs.SearchLaws.{first_row_lem, first_miss}
use Rattle.rules.specs.declared.Token.{Token}
use Rattle.rules.specs.declared.TokenNo.{TokenNo}
use Rattle.rules.specs.Tables.{is_token}
use Rattle.kept.specs.declared.KeptToken.{KeptToken}
use Rattle.kept.specs.Kept.{token_in}
use Rattle.kept_tokens.specs.KeptTokens.{tokens_in, is_kept}
use Rattle.kept_tokens.specs.KeptTokenLaws.{find_in}

-- f is what the search of the kept rows said
module _ (n : TokenNo) (rows : List KeptToken) (f : Option ℕ) (e : f ≡ first_at (is_kept n) 0 rows) (j : List ℕ) where
  pub kept_absent : f ≡ None → find (is_token n) (tokens_in j rows) ≡ miss
  kept_absent w = first_miss (is_token n) (tokens_in j rows) (sym (find_in j rows f n e) ∙ w)

  pub kept_present : (i : ℕ) (d : KeptToken) (k : Token) → f ≡ Some i → k ≡ token_in j (get_or rows i d) → find (is_token n) (tokens_in j rows) ≡ hit i k
  kept_present i d k w q =
      rw (q, ← get_or-map (token_in j) rows i d) (first_row_lem (is_token n) (tokens_in j rows) i (sym (find_in j rows f n e) ∙ w) (token_in j d))
