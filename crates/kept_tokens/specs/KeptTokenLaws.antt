-- What is read of a table of kept tokens is what the tokens have that it stands for. Assumes nothing.
use Rattle.std.specs.Prelude.{◌≡◌, Bool, true, false, cond, ℕ, ◌/◌, ◌%◌, eqb, Option}
use Rattle.std.proofs.Math.Path.{refl, ap₂}
use Rattle.std.proofs.Common.{sym, ◌∙◌}
use mathlib.Core.List.{List, [], ◌∷◌, map}
use Rattle.lists.specs.Lists.{first_at}
use Rattle.lists.specs.RowLaws.{first_map, map_after}
use Rattle.rules.specs.declared.TokenNo.{TokenNo}
use Rattle.rules.specs.declared.VolumeNo.{VolumeNo}
use Rattle.rules.specs.Fresh.{fresh_token}
use Rattle.rules.specs.Tables.{is_token, free_token, cleared}
use Rattle.rules.specs.VolumeCalls.{is_token_of}
use Rattle.rows.specs.Links.{token_number, token_parent}
use Rattle.tokens.specs.Dropped.{cleared_in}
use Rattle.kept.specs.declared.KeptToken.{KeptToken}
use Rattle.kept.specs.Kept.{token_in, fresh_kept_token}
use Rattle.kept_tokens.specs.KeptTokens.{tokens_in, token_gone, is_kept, free_kept, is_kept_of, kept_gone, kept_number, kept_parent}

-- r is what the search of the kept rows said
module _ (j : List ℕ) (rows : List KeptToken) (r : Option ℕ) where
  pub find_in : (n : TokenNo) → r ≡ first_at (is_kept n) 0 rows → r ≡ first_at (is_token n) 0 (tokens_in j rows)
  find_in n e = e ∙ sym (first_map (token_in j) rows (is_token n) (is_kept n) (λ x. refl) 0)

  pub free_in : r ≡ first_at free_kept 0 rows → r ≡ first_at free_token 0 (tokens_in j rows)
  free_in e = e ∙ sym (first_map (token_in j) rows free_token free_kept (λ x. refl) 0)

-- r is the list of the kept rows' numbers
module _ (j : List ℕ) (rows : List KeptToken) (r : List ℕ) where
  pub numbers_in : r ≡ map kept_number rows → r ≡ map token_number (tokens_in j rows)
  numbers_in e = e ∙ sym (map_after token_number (token_in j) kept_number rows (λ x. refl))

  pub parents_in : r ≡ map kept_parent rows → r ≡ map token_parent (tokens_in j rows)
  parents_in e = e ∙ sym (map_after token_parent (token_in j) kept_parent rows (λ x. refl))

-- a table whose rows were cleared stands for the table with those rows cleared
module _ {A B : Type 0} (g : A → B) (z : A) where
  either : (b : Bool) (x : A) → g (cond b z x) ≡ cond b (g z) (g x)
  either true x = refl
  either false x = refl

  cleared_map : (p : A → Bool) (q : B → Bool) (l : List A) → ((x : A) → q (g x) ≡ p x) → map g (cleared p z l) ≡ cleared q (g z) (map g l)
  unfolding cleared
  cleared_map p q [] e = refl
  cleared_map p q (x ∷ xs) e = rw (e x) (ap₂ ◌∷◌ (either (p x) x) (cleared_map p q xs e))

  set_map : (s : ℕ) (l : List A) → map g (cleared_in s z l) ≡ cleared_in s (g z) (map g l)
  unfolding cleared_in
  set_map s [] = refl
  set_map s (x ∷ xs) = ap₂ ◌∷◌ (either (eqb (s % 2) 1) x) (set_map (s / 2) xs)

module _ (j : List ℕ) (rows r : List KeptToken) where
  pub cleared_in_lem : (s : ℕ) → r ≡ cleared_in s fresh_kept_token rows → tokens_in j r ≡ cleared_in s fresh_token (tokens_in j rows)
  cleared_in_lem s e = rw e (set_map (token_in j) fresh_kept_token s rows)

  pub dropped_in : (n : VolumeNo) → r ≡ cleared (is_kept_of n) fresh_kept_token rows → tokens_in j r ≡ cleared (is_token_of n) fresh_token (tokens_in j rows)
  dropped_in n e = rw e (cleared_map (token_in j) fresh_kept_token (is_kept_of n) (is_token_of n) rows (λ x. refl))

  pub gone_in : (gone : List ℕ) → r ≡ cleared (kept_gone gone) fresh_kept_token rows → tokens_in j r ≡ cleared (token_gone gone) fresh_token (tokens_in j rows)
  gone_in gone e = rw e (cleared_map (token_in j) fresh_kept_token (kept_gone gone) (token_gone gone) rows (λ x. refl))
