-- Laws of a token's chain: when two tables give the same chain, and how long a chain is. Assumes nothing.
use Rattle.std.specs.Prelude.{◌≡◌, length}
use Rattle.std.proofs.Math.Path.{refl, ap}
use Rattle.std.proofs.Common.{◌∙◌, not-suc-le-zero, le_of_suc-le-suc}
use mathlib.Core.List.{List, [], ◌∷◌}
use Prim.Native.Nat.{ℕ, zero, suc, ◌≤◌}
use native.Mathlib.Omega.{arith}
use Rattle.lists.specs.Lists.{Hit, miss, hit, find}
use Rattle.rules.specs.declared.Token.{Token}
use Rattle.rules.specs.Tables.{is_token}
use Rattle.rules.specs.Scope.{on_hit, chain}

-- tokens whose parents are found in both tables alike, and are such tokens too, have one chain in both
module _ (ks ls : List Token) (In : Token → Type 0)
    (same : (k : Token) → In k → find (is_token k.parent) ls ≡ find (is_token k.parent) ks)
    (up : (k : Token) → In k → (i : ℕ) (p : Token) → find (is_token k.parent) ks ≡ hit i p → In p) where
  step_same : (n : ℕ) → ((k : Token) → In k → chain n ls k ≡ chain n ks k) → (k : Token) → In k → (h : Hit Token) → find (is_token k.parent) ks ≡ h
      → on_hit [] (chain n ls) h ≡ on_hit [] (chain n ks) h
  step_same n f k q miss e = refl
  step_same n f k q (hit i p) e = f p (up k q i p e)

  pub chain_same : (n : ℕ) (k : Token) → In k → chain n ls k ≡ chain n ks k
  unfolding chain
  chain_same zero k q = refl
  chain_same (suc n) k q =
      ap (λ l. k ∷ l)
      (ap (on_hit [] (chain n ls)) (same k q) ∙ step_same n (λ p w. chain_same n p w) k q (find (is_token k.parent) ks) refl)

-- a chain counted further is no shorter, and it is the same where it ended before
module _ (ks : List Token) where
  longer_step : (n : ℕ) → ((k : Token) → length (chain n ks k) ≤ length (chain (suc n) ks k)) → (h : Hit Token)
      → length (on_hit [] (chain n ks) h) ≤ length (on_hit [] (chain (suc n) ks) h)
  longer_step n f miss = omega arith
  longer_step n f (hit i p) = f p

  pub chain_longer : (n : ℕ) (k : Token) → length (chain n ks k) ≤ length (chain (suc n) ks k)
  unfolding chain
  chain_longer zero k = omega arith
  chain_longer (suc n) k = omega (arith, longer_step n (λ p. chain_longer n p) (find (is_token k.parent) ks))

  ended_step : (n : ℕ) → ((k : Token) → length (chain (suc n) ks k) ≤ n → chain (suc n) ks k ≡ chain n ks k) → (h : Hit Token)
      → length (on_hit [] (chain (suc n) ks) h) ≤ n → on_hit [] (chain (suc n) ks) h ≡ on_hit [] (chain n ks) h
  ended_step n f miss e = refl
  ended_step n f (hit i p) e = f p e

  pub chain_ended : (n : ℕ) (k : Token) → length (chain (suc n) ks k) ≤ n → chain (suc n) ks k ≡ chain n ks k
  unfolding chain
  chain_ended zero k e = absurd (not-suc-le-zero e)
  chain_ended (suc n) k e =
      ap (λ l. k ∷ l) (ended_step n (λ p w. chain_ended n p w) (find (is_token k.parent) ks) (le_of_suc-le-suc e))

  -- the chain of a token is the token, and the chain of its parent
  pub chain_parent : (n : ℕ) (k : Token) (i : ℕ) (p : Token) → find (is_token k.parent) ks ≡ hit i p → chain (suc n) ks k ≡ k ∷ chain n ks p
  unfolding chain
  chain_parent n k i p e = ap (λ h. k ∷ on_hit [] (chain n ks) h) e
