-- A chain of parents followed one number at a time. Assumes nothing.
use Rattle.std.specs.Prelude.{◌≡◌, List, [], ◌∷◌, ℕ, zero, suc}
use Rattle.std.proofs.Math.Path.{refl}
use Rattle.lists.specs.Lists.{Hit, miss, hit, find}
use Rattle.rules.specs.declared.TokenNo.{TokenNo}
use Rattle.rules.specs.declared.Token.{Token}
use Rattle.rules.specs.Tables.{is_token}
use Rattle.rules.specs.Scope.{on_hit, chain}

abbrev pub numbered : ℕ → TokenNo
numbered n = record { 0 = n }

-- the token of the number n and its ancestors, at most m of them
unfoldable pub upward : List Token → ℕ → ℕ → List Token
upward ts m n = on_hit [] (chain m ts) (find (is_token (numbered n)) ts)

module _ (ts : List Token) where
  pub chain_up : (m : ℕ) (k : Token) → chain (suc m) ts k ≡ k ∷ upward ts m k.parent.0
  unfolding chain upward
  chain_up m k = refl

  pub up_none : (m n : ℕ) → find (is_token (numbered n)) ts ≡ miss → upward ts m n ≡ []
  unfolding upward
  up_none m n e = rw e

  pub up_step : (m n i : ℕ) (x : Token) → find (is_token (numbered n)) ts ≡ hit i x → upward ts (suc m) n ≡ x ∷ upward ts m x.parent.0
  unfolding upward
  up_step m n i x e = rw e (chain_up m x)

  none_left : (h : Hit Token) → on_hit [] (chain zero ts) h ≡ []
  unfolding chain
  none_left miss = refl
  none_left (hit i x) = refl

  pub up_end : (n : ℕ) → upward ts 0 n ≡ []
  unfolding upward
  up_end n = none_left (find (is_token (numbered n)) ts)
