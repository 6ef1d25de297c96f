-- Laws of modify: a row that is read, changed and stored, the other rows, and what tests, counts and sums say after it. Assumes nothing.
use Rattle.std.specs.Prelude.{◌≡◌, Bool, true, false, eqb, length, get_or, set}
use Rattle.std.proofs.Math.Path.{refl, ap}
use Rattle.std.proofs.Common.{sym, ◌∙◌, ⊎_elim, le_of_suc-le-suc, not-suc-le-zero, eqb-true}
use mathlib.Core.List.{List, [], ◌∷◌, map}
use Prim.Native.Nat.{ℕ, zero, suc, ◌+◌, ◌<◌, ◌≤◌}
use native.Mathlib.Omega.{arith}
use Rattle.std.proofs.lemmas.Bool.{eqb-false}
use Rattle.std.proofs.lemmas.List.{set-get_or}
use Rattle.lists.specs.Lists.{bit, all_of, any_of, no_clash, count_if, sum_of, modify}
use Rattle.lists.specs.BoolLaws.{and_left, and_right, and_both, or_left, or_right, or_none, pass_or_fail}
use Rattle.lists.specs.TestLaws.{clash_at, at_clash}

module _ {A : Type 0} where
  -- a row is stored: v is what a function computed of the row that was read
  pub row_set : (f : A → A) (l : List A) (i : ℕ) (d : A) → set l i (f (get_or l i d)) ≡ modify f i l
  unfolding modify
  row_set f [] i d = refl
  row_set f (x ∷ xs) zero d = refl
  row_set f (x ∷ xs) (suc i) d = ap (λ ys. x ∷ ys) (row_set f xs i d)

  pub row_store : {v : A} (f : A → A) (l : List A) (i : ℕ) (d : A) → v ≡ f (get_or l i d) → set l i v ≡ modify f i l
  row_store f l i d e = rw e (row_set f l i d)

  pub length_modify : (f : A → A) (i : ℕ) (l : List A) → length (modify f i l) ≡ length l
  unfolding modify
  length_modify f i [] = refl
  length_modify f zero (x ∷ xs) = refl
  length_modify f (suc i) (x ∷ xs) = ap suc (length_modify f i xs)

  -- the row that is changed, and another
  pub modify_at : (f : A → A) (i : ℕ) (l : List A) (d : A) → i < length l → get_or (modify f i l) i d ≡ f (get_or l i d)
  unfolding modify
  modify_at f i [] d h = absurd (not-suc-le-zero h)
  modify_at f zero (x ∷ xs) d h = refl
  modify_at f (suc i) (x ∷ xs) d h = modify_at f i xs d (le_of_suc-le-suc h)

  pub modify_other : (f : A → A) (i j : ℕ) (l : List A) (d : A) → (j ≡ i → ⊥) → get_or (modify f i l) j d ≡ get_or l j d
  unfolding modify
  modify_other f i j [] d n = refl
  modify_other f zero zero (x ∷ xs) d n = absurd (n refl)
  modify_other f zero (suc j) (x ∷ xs) d n = refl
  modify_other f (suc i) zero (x ∷ xs) d n = refl
  modify_other f (suc i) (suc j) (x ∷ xs) d n = modify_other f i j xs d (λ e. n (ap suc e))

  -- no such row
  pub modify_past : (f : A → A) (i : ℕ) (l : List A) → length l ≤ i → modify f i l ≡ l
  unfolding modify
  modify_past f i [] h = refl
  modify_past f zero (x ∷ xs) h = absurd (not-suc-le-zero h)
  modify_past f (suc i) (x ∷ xs) h = ap (λ ys. x ∷ ys) (modify_past f i xs (le_of_suc-le-suc h))

  -- two changes that do the same to the row, a change that does nothing to it, and two changes of one row
  pub modify_agree : (f g : A → A) (i : ℕ) (l : List A) (d : A) → f (get_or l i d) ≡ g (get_or l i d) → modify f i l ≡ modify g i l
  modify_agree f g i l d e = sym (row_set f l i d) ∙ rw e (row_set g l i d)

  pub modify_none : (f : A → A) (i : ℕ) (l : List A) (d : A) → f (get_or l i d) ≡ get_or l i d → modify f i l ≡ l
  modify_none f i l d e = sym (row_set f l i d) ∙ rw e (set-get_or l i d)

  pub modify_twice : (f g h : A → A) (i : ℕ) (l : List A) → ((x : A) → g (f x) ≡ h x) → modify g i (modify f i l) ≡ modify h i l
  unfolding modify
  modify_twice f g h i [] e = refl
  modify_twice f g h zero (x ∷ xs) e = ap (λ y. y ∷ xs) (e x)
  modify_twice f g h (suc i) (x ∷ xs) e = ap (λ ys. x ∷ ys) (modify_twice f g h i xs e)

  -- what the change leaves as it was, in every row: cited with the laws of RowLaws
  pub map_modify : {B : Type 0} (g : A → B) (f : A → A) (i : ℕ) (l : List A) (d : A) → g (f (get_or l i d)) ≡ g (get_or l i d)
      → map g (modify f i l) ≡ map g l
  unfolding modify
  map_modify g f i [] d e = refl
  map_modify g f zero (x ∷ xs) d e = ap (λ y. y ∷ map g xs) e
  map_modify g f (suc i) (x ∷ xs) d e = ap (λ ys. g x ∷ ys) (map_modify g f i xs d e)

  -- every row still passes
  pub all_modify : (p : A → Bool) (f : A → A) (i : ℕ) (l : List A) (d : A) → all_of p l ≡ true
      → (i < length l → p (f (get_or l i d)) ≡ true)
      → all_of p (modify f i l) ≡ true
  unfolding modify
  all_modify p f i [] d e h = refl
  all_modify p f zero (x ∷ xs) d e h = and_both (h (omega arith)) (and_right (p x) (all_of p xs) e)
  all_modify p f (suc i) (x ∷ xs) d e h =
      and_both (and_left (p x) (all_of p xs) e) (all_modify p f i xs d (and_right (p x) (all_of p xs) e) (λ k. h (omega arith)))

  -- still no row passes
  pub none_modify : (p : A → Bool) (f : A → A) (i : ℕ) (l : List A) (d : A) → any_of p l ≡ false
      → (i < length l → p (f (get_or l i d)) ≡ false)
      → any_of p (modify f i l) ≡ false
  unfolding modify
  none_modify p f i [] d e h = refl
  none_modify p f zero (x ∷ xs) d e h = or_none (h (omega arith)) (or_right (p x) (any_of p xs) e)
  none_modify p f (suc i) (x ∷ xs) d e h =
      or_none (or_left (p x) (any_of p xs) e) (none_modify p f i xs d (or_right (p x) (any_of p xs) e) (λ k. h (omega arith)))

  -- a sum and a count, with the old row and the new one
  pub sum_modify : (f : A → ℕ) (g : A → A) (i : ℕ) (l : List A) (d : A) → i < length l
      → sum_of f (modify g i l) + f (get_or l i d) ≡ sum_of f l + f (g (get_or l i d))
  unfolding sum_of modify
  sum_modify f g i [] d h = absurd (not-suc-le-zero h)
  sum_modify f g zero (x ∷ xs) d h = omega arith
  sum_modify f g (suc i) (x ∷ xs) d h = omega (arith, sum_modify f g i xs d (le_of_suc-le-suc h))

  pub count_modify : (p : A → Bool) (g : A → A) (i : ℕ) (l : List A) (d : A) → i < length l
      → count_if p (modify g i l) + bit (p (get_or l i d)) ≡ count_if p l + bit (p (g (get_or l i d)))
  unfolding count_if modify
  count_modify p g i [] d h = absurd (not-suc-le-zero h)
  count_modify p g zero (x ∷ xs) d h = omega arith
  count_modify p g (suc i) (x ∷ xs) d h = omega (arith, count_modify p g i xs d (le_of_suc-le-suc h))

-- no row clashes where the new row clashes with no other, before it or after it
module _ {A : Type 0} (clash : A → A → Bool) (f : A → A) (i : ℕ) (l : List A) (d : A) (e : no_clash clash l ≡ true)
    (before : (j : ℕ) → j < i → i < length l → clash (get_or l j d) (f (get_or l i d)) ≡ false)
    (after : (j : ℕ) → i < j → j < length l → clash (f (get_or l i d)) (get_or l j d) ≡ false) where
  first_new : (a b : ℕ) → a < b → b < length l → eqb a i ≡ true → clash (get_or (modify f i l) a d) (get_or (modify f i l) b d) ≡ false
  first_new a b h k t =
      let q : a ≡ i = eqb-true a i t in
      rw (q, modify_at f i l d (omega arith), modify_other f i b l d (λ z. omega arith)) (after b (omega arith) k)

  second_new : (a b : ℕ) → a < b → b < length l → eqb b i ≡ true → clash (get_or (modify f i l) a d) (get_or (modify f i l) b d) ≡ false
  second_new a b h k t =
      let q : b ≡ i = eqb-true b i t in
      rw (q, modify_at f i l d (omega arith), modify_other f i a l d (λ z. omega arith)) (before a (omega arith) (omega arith))

  both_old : (a b : ℕ) → a < b → b < length l → eqb a i ≡ false → eqb b i ≡ false
      → clash (get_or (modify f i l) a d) (get_or (modify f i l) b d) ≡ false
  both_old a b h k s t =
      rw (modify_other f i a l d (eqb-false a i s), modify_other f i b l d (eqb-false b i t)) (clash_at clash l e a b h k d)

  pub clash_modify : no_clash clash (modify f i l) ≡ true
  clash_modify =
      at_clash clash (modify f i l) d
      (λ a b h k.
      let m : b < length l = rw (length_modify f i l) at k in
      ⊎_elim (first_new a b h m) (λ s. ⊎_elim (second_new a b h m) (both_old a b h m s) (pass_or_fail (eqb b i))) (pass_or_fail (eqb a i)))
