-- Laws of a table in which one row is special: two sums that differ at one row, and a row that is stored. Assumes nothing.
use Rattle.std.specs.Prelude.{◌≡◌, refl, Bool, true, false, not, List, [], ◌∷◌, ℕ, zero, suc, ◌+◌, ◌<◌, length, get_or, set}
use Rattle.std.proofs.Common.{sym, ◌∙◌, le_of_suc-le-suc, not-suc-le-zero, arith}
use Rattle.lists.specs.Lists.{bit, any_of, count_if, sum_of, no_clash, modify}
use Rattle.lists.specs.BoolLaws.{or_left, or_right}
use Rattle.lists.specs.ModifyLaws.{row_set, sum_modify, count_modify, clash_modify}
use Rattle.std.proofs.lemmas.Bool.{not-false}

-- two sums that agree but at one row
pub sum_but_one : {A : Type 0} (f g : A → ℕ) (l : List A) (i : ℕ) (d : A) → i < length l
    → ((j : ℕ) → j < length l → (j ≡ i → ⊥) → f (get_or l j d) ≡ g (get_or l j d)) → sum_of f l + g (get_or l i d) ≡ sum_of g l + f (get_or l i d)
unfolding sum_of
sum_but_one f g [] i d h e = absurd (not-suc-le-zero h)
sum_but_one f g (x ∷ xs) zero d h e =
    omega (arith, sum_agree f g xs d (λ j k. e (suc j) (omega arith) (λ q. omega arith)))
  where
    sum_agree : {A : Type 0} (f g : A → ℕ) (l : List A) (d : A) → ((j : ℕ) → j < length l → f (get_or l j d) ≡ g (get_or l j d)) → sum_of f l ≡ sum_of g l
    sum_agree f g [] d e = refl
    sum_agree f g (x ∷ xs) d e = omega (arith, e 0 (omega arith), sum_agree f g xs d (λ j k. e (suc j) (omega arith)))
sum_but_one f g (x ∷ xs) (suc i) d h e =
    omega (arith, e 0 (omega arith) (λ q. omega arith), sum_but_one f g xs i d (le_of_suc-le-suc h) (λ j k n. e (suc j) (omega arith) (λ q. n (omega arith))))

-- a table in which not every row passes has one that does not
pub not_all_count : {A : Type 0} (p q : A → Bool) (l : List A) → ((x : A) → q x ≡ not (p x)) → any_of q l ≡ false → count_if p l ≡ length l
unfolding count_if
not_all_count p q [] e h = refl
not_all_count p q (x ∷ xs) e h =
    let t = not-false (p x) (sym (e x) ∙ or_left (q x) (any_of q xs) h) in
    rw t (omega (arith, not_all_count p q xs e (or_right (q x) (any_of q xs) h)))

-- one row stored in the place of another
module _ {A : Type 0} (l : List A) (i : ℕ) (x d : A) where
  set_row : set l i x ≡ modify (λ y. x) i l
  set_row = row_set (λ y. x) l i x

  pub sum_set : (f : A → ℕ) → i < length l → sum_of f (set l i x) + f (get_or l i d) ≡ sum_of f l + f x
  sum_set f h = rw set_row (sum_modify f (λ y. x) i l d h)

  pub count_set : (p : A → Bool) → i < length l → count_if p (set l i x) + bit (p (get_or l i d)) ≡ count_if p l + bit (p x)
  count_set p h = rw set_row (count_modify p (λ y. x) i l d h)

  pub clash_store : (clash : A → A → Bool) → no_clash clash l ≡ true → ((j : ℕ) → j < i → i < length l → clash (get_or l j d) x ≡ false)
      → ((j : ℕ) → i < j → j < length l → clash x (get_or l j d) ≡ false) → no_clash clash (set l i x) ≡ true
  clash_store clash e before after = rw set_row (clash_modify clash (λ y. x) i l d e before after)
