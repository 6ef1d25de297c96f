-- Laws of a table with one row stored: what tests, searches and clashes say after it, for any kind of row. Assumes nothing.
use Rattle.std.specs.Prelude.{◌≡◌, Bool, true, false, not, length, get_or, set}
use Rattle.std.proofs.Math.Path.{refl}
use mathlib.Core.List.{List, [], ◌∷◌, ◌++◌}
use Prim.Native.Nat.{ℕ, zero, suc, ◌<◌}
use Rattle.std.proofs.Common.{arith}
use borrow.Author.Tests.{not-true}
use Rattle.lists.specs.Lists.{first_row, all_of, any_of, no_clash}
use Rattle.lists.specs.BoolLaws.{and_left, and_right, or_left, or_right}
use Rattle.lists.specs.TestLaws.{any_append}
use Rattle.lists.specs.ModifyLaws.{row_set, all_modify, clash_modify}

module _ {A : Type 0} where
  -- every row still passes
  pub all_set : (p : A → Bool) (l : List A) (i : ℕ) (y : A) → all_of p l ≡ true → p y ≡ true → all_of p (set l i y) ≡ true
  all_set p l i y e f = rw (row_set (λ x. y) l i y) (all_modify p (λ x. y) i l y e (λ h. f))

  -- no row clashes where the new one clashes with none
  pub clash_set : (c : A → A → Bool) (l : List A) (i : ℕ) (y : A) → no_clash c l ≡ true
      → ((j : ℕ) → j < length l → c (get_or l j y) y ≡ false)
      → ((j : ℕ) → j < length l → c y (get_or l j y) ≡ false)
      → no_clash c (set l i y) ≡ true
  clash_set c l i y e f g =
      rw (row_set (λ x. y) l i y)
      (clash_modify c (λ x. y) i l y e (λ j h k. f j (omega arith)) (λ j h k. g j k))

  -- a row that does not pass, put in the place of one that does not pass, is not found
  pub find_set : (p : A → Bool) (l : List A) (k i : ℕ) (y d : A) → p (get_or l i d) ≡ false → p y ≡ false → first_row p k (set l i y) ≡ first_row p k l
  unfolding first_row
  find_set p [] k i y d e f = refl
  find_set p (x ∷ xs) k zero y d e f = rw (e, f)
  find_set p (x ∷ xs) k (suc i) y d e f = rw (find_set p xs (suc k) i y d e f)

  -- one row more at the end: it clashes with none before it, where q tells which rows it clashes with
  pub clash_last : (c : A → A → Bool) (q : A → Bool) (l : List A) (y : A) → ((x : A) → c x y ≡ q x) → any_of q l ≡ false → no_clash c l ≡ true
      → no_clash c (l ++ (y ∷ [])) ≡ true
  unfolding no_clash
  clash_last c q [] y f g e = refl
  clash_last c q (x ∷ xs) y f g e =
      let n = not-true (any_of (c x) xs) (and_left (not (any_of (c x) xs)) (no_clash c xs) e) in
      rw (any_append (c x) xs (y ∷ []), n, f x, or_left (q x) (any_of q xs) g)
      (clash_last c q xs y f (or_right (q x) (any_of q xs) g) (and_right (not (any_of (c x) xs)) (no_clash c xs) e))
