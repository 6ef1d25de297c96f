-- Laws of cleared_in: each row by its bit, no rows, and the rows that pass a test. Assumes nothing.
use Rattle.std.specs.Prelude.{◌≡◌, Bool, true, false, cond, eqb, length, get_or}
use Rattle.std.proofs.Math.Path.{refl, sym, ap}
use Rattle.std.proofs.Common.{◌∙◌, le_of_suc-le-suc, not-suc-le-zero, eq-eqb, ne_eqb}
use mathlib.Core.List.{List, [], ◌∷◌}
use Prim.Native.Nat.{ℕ, zero, suc, ◌+◌, ◌*◌, ◌/◌, ◌%◌, ◌^◌, ◌<◌}
use Rattle.std.proofs.Math.Nat.{pow-succ', div-div-eq-div-mul}
use native.Mathlib.Omega.{arith}
use Rattle.lists.specs.Lists.{bit, bit_set}
use Rattle.lists.specs.SumLaws.{bit_lt}
use Rattle.rules.specs.Tables.{cleared}
use Rattle.tokens.specs.Dropped.{cleared_in}

module _ {A : Type 0} (z : A) where
  pub length_in : (s : ℕ) (l : List A) → length (cleared_in s z l) ≡ length l
  unfolding cleared_in
  length_in s [] = refl
  length_in s (x ∷ xs) = ap suc (length_in (s / 2) xs)

  -- a row, by its bit
  pub row_by_bit : (s : ℕ) (l : List A) (i : ℕ) (d : A) → i < length l → get_or (cleared_in s z l) i d ≡ cond (eqb (s / 2 ^ i % 2) 1) z (get_or l i d)
  unfolding cleared_in
  row_by_bit s [] i d h = absurd (not-suc-le-zero h)
  row_by_bit s (x ∷ xs) zero d h = let w : s / 2 ^ 0 ≡ s = omega arith in rw w
  row_by_bit s (x ∷ xs) (suc i) d h =
      let half : s / 2 ^ suc i ≡ s / 2 / 2 ^ i = ap (λ (k : ℕ). s / k) (pow-succ' 2 i) ∙ sym (div-div-eq-div-mul s 2 (2 ^ i)) in
      rw half (row_by_bit (s / 2) xs i d (le_of_suc-le-suc h))

  pub in_none : (l : List A) → cleared_in 0 z l ≡ l
  unfolding cleared_in
  in_none [] = refl
  in_none (x ∷ xs) = ap (λ (l : List A). x ∷ l) (in_none xs)

  lowest : (b : Bool) (m : ℕ) → eqb ((bit b + 2 * m) % 2) 1 ≡ b
  lowest true m = eq-eqb ((1 + 2 * m) % 2) 1 (omega arith)
  lowest false m = ne_eqb ((0 + 2 * m) % 2) 1 (omega arith)

  -- the set of the rows that pass a test
  pub in_those : (p : A → Bool) (l : List A) → cleared_in (bit_set p l) z l ≡ cleared p z l
  unfolding cleared_in cleared bit_set
  in_those p [] = refl
  in_those p (x ∷ xs) =
      let half : (bit (p x) + 2 * bit_set p xs) / 2 ≡ bit_set p xs = omega (arith, bit_lt (p x)) in
      rw (lowest (p x) (bit_set p xs), half, in_those p xs)
