-- Grant: at the row of its volume, and in the table of the tokens. Assumes nothing.
use Rattle.std.specs.Prelude.{Option, Some, None}
use mathlib.Core.Path.{◌≡◌, refl, ◌∙◌}
use mathlib.Core.Bool.{Bool, cond}
use mathlib.Core.List.{List}
use Prim.Native.Nat.{ℕ}
use lib.ListN.{get_or}
use Rattle.lists.specs.Lists.{hit, miss, find, first_at}
use Rattle.lists.specs.AnswerLaws.{no_row, at_row}
use Rattle.rules.specs.declared.Account.{Account}
use Rattle.rules.specs.declared.VolumeNo.{VolumeNo}
use Rattle.rules.specs.declared.Volume.{Volume}
use Rattle.rules.specs.declared.Token.{Token}
use Rattle.rules.specs.declared.Tables.{Tables}
use Rattle.rules.specs.declared.TablesOutcome.{TablesOutcome}
use Rattle.rules.specs.Numbers.{NO_VOLUME}
use Rattle.rules.specs.Outcome.{refused}
use Rattle.rules.specs.Scope.{ScopeArg}
use Rattle.rules.specs.Tables.{is_volume, free_token}
use Rattle.rules.specs.TokenCalls.{grant_in, grant_rule}
use Rattle.rows.specs.Blank.{blank_volume, blank_token}
use Rattle.tokens.specs.Parts.{on_tokens, stored_at, stored_in, is_found, place_of}
use Rattle.tokens.specs.declared.NewToken.{NewToken}
use Rattle.tokens.specs.declared.TokensOutcome.{TokensOutcome}
use Rattle.tokens.specs.FoundLaws.{found_row}
use Rattle.tokens.proofs.NewTokenLaws.{tokens_stored}

-- f is what the search of the volumes said
module _ (t : Tables) (vs : List Volume) (a : Account) (s : ScopeArg) (n : VolumeNo) (f : Option ℕ) (e : f ≡ first_at (is_volume n) 0 vs) (v : t.volumes ≡ vs) where
  pub grant_none : (x : TablesOutcome) → f ≡ None → x ≡ refused t NO_VOLUME → x ≡ grant_in t a s (find (is_volume n) t.volumes)
  unfolding grant_in
  grant_none x w h = no_row (grant_in t a s) (is_volume n) t.volumes f x (rw (← v) at e) w h

  pub grant_at : (i j last : ℕ) (free : Bool) (old : Token) (r : NewToken) → f ≡ Some j
      → ((u : Tables) (m : ℕ) (o : Token) → u.last_token ≡ last → find free_token u.tokens ≡ cond free (hit m o) miss
      → stored_at u m r ≡ grant_in u a s (hit 0 (get_or vs j blank_volume)))
      → t.last_token ≡ last → find free_token t.tokens ≡ cond free (hit i old) miss → stored_at t i r ≡ grant_in t a s (find (is_volume n) t.volumes)
  unfolding grant_in
  grant_at i j last free old r w g l h =
      at_row (grant_in t a s) (is_volume n) t.volumes blank_volume f (stored_at t i r) j (rw (← v) at e) w (rw (← v) at (g t i old l h))

-- f is what the search for a free row said, and o the new token
pub grant_stored : (t : Tables) (a : Account) (s : ScopeArg) (n : VolumeNo) (f : Option ℕ) (free : Bool) (o : NewToken) (r : TokensOutcome)
    → r ≡ stored_in t.tokens t.last_token (place_of f) o → f ≡ first_at free_token 0 t.tokens → free ≡ is_found f
    → ((u : Tables) (m : ℕ) (old : Token) → u.volumes ≡ t.volumes → u.last_token ≡ t.last_token → find free_token u.tokens ≡ cond free (hit m old) miss
    → stored_at u m o ≡ grant_rule a n s u)
    → on_tokens t r ≡ grant_rule a n s t
grant_stored t a s n f free o r h e q g =
    tokens_stored t.tokens (place_of f) t.last_token o t refl refl r h
    ∙ g t (place_of f) (get_or t.tokens (place_of f) blank_token) refl refl (rw q (found_row free_token t.tokens blank_token f e))
