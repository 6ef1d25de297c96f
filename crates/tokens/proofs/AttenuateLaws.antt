-- Attenuate: at the row of the parent, and in the table of the tokens. Assumes nothing.
use Rattle.std.specs.Prelude.{Option, Some, None}
use mathlib.Core.Path.{◌≡◌, refl, sym, ◌∙◌}
use mathlib.Core.Bool.{Bool, true, false, not, cond}
use mathlib.Core.List.{List}
use Prim.Native.Nat.{ℕ}
use borrow.Author.Tests.{not-true, not-false}
use lib.ListN.{get_or}
use Rattle.lists.specs.Lists.{hit, miss, find, first_at}
use Rattle.lists.specs.SearchLaws.{first_row_lem, first_miss}
use Rattle.rules.specs.declared.TokenNo.{TokenNo}
use Rattle.rules.specs.declared.Token.{Token}
use Rattle.rules.specs.declared.Tables.{Tables}
use Rattle.rules.specs.declared.TablesOutcome.{TablesOutcome}
use Rattle.rules.specs.Fresh.{fresh_token}
use Rattle.rules.specs.Numbers.{NO_TOKEN}
use Rattle.rules.specs.Outcome.{refused}
use Rattle.rules.specs.Scope.{ScopeArg, depth}
use Rattle.rules.specs.Tables.{is_token, free_token, token_of}
use Rattle.rules.specs.TokenCalls.{attenuate_rule}
use Rattle.rows.specs.Blank.{blank_token}
use Rattle.tokens.specs.Parts.{on_tokens, stored_at, stored_in, is_found, place_of}
use Rattle.rows.specs.Links.{row_if}
use Rattle.tokens.specs.Rows.{attenuate_deep, attenuate_found}
use Rattle.tokens.specs.RowLaws.{attenuate_by_row}
use Rattle.tokens.specs.declared.NewToken.{NewToken}
use Rattle.tokens.specs.declared.TokensOutcome.{TokensOutcome}
use Rattle.tokens.specs.FoundLaws.{found_row}
use Rattle.tokens.proofs.NewTokenLaws.{tokens_stored}

-- k is the row of the parent, where it is there, and d the tokens of its chain
module _ (t : Tables) (s : ScopeArg) (d : ℕ) (there : Bool) (k : Token) where
  pub attenuate_none : (x : TablesOutcome) → not there ≡ true → x ≡ refused t NO_TOKEN → x ≡ attenuate_deep t s d (row_if there k)
  unfolding attenuate_deep
  attenuate_none x w h = h ∙ sym (rw (not-true there w))

  pub attenuate_at : (i last : ℕ) (free : Bool) (old : Token) (r : NewToken) → not there ≡ false
      → ((u : Tables) (m : ℕ) (o : Token) → u.last_token ≡ last → find free_token u.tokens ≡ cond free (hit m o) miss
      → stored_at u m r ≡ attenuate_deep u s d (hit 0 k))
      → t.last_token ≡ last → find free_token t.tokens ≡ cond free (hit i old) miss → stored_at t i r ≡ attenuate_deep t s d (row_if there k)
  unfolding attenuate_deep
  attenuate_at i last free old r w g l h = g t i old l h ∙ sym (rw (not-false there w))

-- f is what the search of the rows for a free one said, d the depth of k, and o the new token
pub attenuate_stored : (t : Tables) (rows : List Token) (last : ℕ) (s : ScopeArg) (n : TokenNo) (there : Bool) (k : Token) (j d : ℕ) (f : Option ℕ) (free : Bool)
    (o : NewToken) (r : TokensOutcome)
    → r ≡ stored_in rows last (place_of f) o → f ≡ first_at free_token 0 rows → free ≡ is_found f → t.tokens ≡ rows → t.last_token ≡ last
    → token_of n t ≡ cond there (hit j k) miss → d ≡ depth rows k
    → ((u : Tables) (x : ℕ) (old : Token) → u.last_token ≡ last → find free_token u.tokens ≡ cond free (hit x old) miss
    → stored_at u x o ≡ attenuate_found u s d (row_if there k))
    → on_tokens t r ≡ attenuate_rule n s t
attenuate_stored t rows last s n there k j d f free o r h e q v l here deep g =
    tokens_stored rows (place_of f) last o t v l r h
    ∙ g t (place_of f) (get_or rows (place_of f) blank_token) l (rw (v, q) (found_row free_token rows blank_token f e))
    ∙ attenuate_by_row t n s d there j k here (rw v (sym deep))

-- f is what the search for the token n said
module _ (t : Tables) (s : ScopeArg) (n : TokenNo) (f : Option ℕ) (e : f ≡ first_at (is_token n) 0 t.tokens) (r : TokensOutcome) where
  pub attenuate_missed : (k : Token) → k ≡ fresh_token → f ≡ None
      → ((u : Tables) (m : TokenNo) (j : ℕ) → u.tokens ≡ t.tokens → u.last_token ≡ t.last_token → token_of m u ≡ cond false (hit j k) miss
      → on_tokens u r ≡ attenuate_rule m s u)
      → on_tokens t r ≡ attenuate_rule n s t
  unfolding token_of
  attenuate_missed k b w g = g t n 0 refl refl (first_miss (is_token n) t.tokens (sym e ∙ w))

  pub attenuate_found_lem : (i : ℕ) → f ≡ Some i
      → ((u : Tables) (m : TokenNo) (j : ℕ) → u.tokens ≡ t.tokens → u.last_token ≡ t.last_token
      → token_of m u ≡ cond true (hit j (get_or t.tokens i blank_token)) miss → on_tokens u r ≡ attenuate_rule m s u)
      → on_tokens t r ≡ attenuate_rule n s t
  unfolding token_of
  attenuate_found_lem i w g = g t n i refl refl (first_row_lem (is_token n) t.tokens i (sym e ∙ w) blank_token)
