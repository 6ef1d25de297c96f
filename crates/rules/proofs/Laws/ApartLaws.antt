-- Laws of rows that are free or have a number that no other row has. Assumes nothing.
use Rattle.std.specs.Prelude.{◌≡◌, refl, Bool, true, false, ◌||◌, not, List, ℕ, ◌<◌, eqb, ltb, length, get_or}
use Rattle.std.proofs.Common.{ap, sym, ◌∙◌, ⊎_elim, arith, ltb-true, ltb-false, eqb-true, lt-ltb, le-ltb, eq-eqb}
use Rattle.std.proofs.lemmas.Bool.{eqb-false, not-true, not-false}
use Rattle.lists.specs.Lists.{no_clash}
use Rattle.lists.specs.BoolLaws.{and_left, and_both, same_test, pass_or_fail, not_both}
use Rattle.lists.specs.TestLaws.{clash_at}
use Rattle.rules.specs.Tables.{given, numbered}
use Rattle.rules.proofs.Laws.NumberLaws.{numbered_eq, same_number}

-- a number is given or it is 0
pub free_used : (n : ℕ) → eqb n 0 ≡ not (given n)
free_used n =
    ⊎_elim (λ e. e ∙ sym (ap not (ltb_none n (eqb-true n 0 e)))) (λ e. e ∙ sym (ap not (lt-ltb 0 n (positive n (eqb-false n 0 e)))))
    (pass_or_fail (eqb n 0))
  where
    ltb_none : (n : ℕ) → n ≡ 0 → given n ≡ false
    ltb_none n e = le-ltb 0 n (omega arith)

    positive : (n : ℕ) → (n ≡ 0 → ⊥) → 0 < n
    positive n h = ⊎_elim (λ e. ltb-true 0 n e) (λ e. absurd (h (omega (arith, ltb-false 0 n e)))) (pass_or_fail (ltb 0 n))

pub used_not_free : (n : ℕ) → given n ≡ true → eqb n 0 ≡ false
used_not_free n e = free_used n ∙ ap not e

pub free_not_used : (n : ℕ) → eqb n 0 ≡ true → given n ≡ false
free_not_used n e = not-true (given n) (sym (free_used n) ∙ e)

pub not_free_used : (n : ℕ) → eqb n 0 ≡ false → given n ≡ true
not_free_used n e = not-false (given n) (sym (free_used n) ∙ e)

-- of a row that is free or passes
pub other_part : (a b : Bool) → a ≡ false → (a || b) ≡ true → b ≡ true
other_part true b e f = absurd (not_both refl e)
other_part false b e f = f

pub either_part : (a b : Bool) → (a ≡ false → b ≡ true) → (a || b) ≡ true
either_part true b f = refl
either_part false b f = f refl

-- a row of this number
pub numbered_given : (n m : ℕ) → numbered n m ≡ true → given n ≡ true
numbered_given n m e = and_left (given n) (eqb m n) e

pub numbered_symmetric : (n m : ℕ) → numbered n m ≡ numbered m n
numbered_symmetric n m = same_test (numbered n m) (numbered m n) (back n m) (back m n)
  where
    back : (n m : ℕ) → numbered n m ≡ true → numbered m n ≡ true
    back n m e = rw (numbered_eq n m e) (and_both (numbered_given n m e) (eq-eqb n n refl))

-- two indexes are the same or one is before the other
data Places (i j : ℕ) : Type 0 where
  before : i < j → Places i j
  same : i ≡ j → Places i j
  after : j < i → Places i j

places : (i j : ℕ) → Places i j
places i j =
    ⊎_elim (λ e. before (ltb-true i j e))
    (λ e. ⊎_elim (λ f. after (ltb-true j i f)) (λ f. same (omega (arith, ltb-false i j e, ltb-false j i f))) (pass_or_fail (ltb j i)))
    (pass_or_fail (ltb i j))

-- no row clashes, so two indexes whose rows clash both ways are the same
pub clash_one : {A : Type 0} (clash : A → A → Bool) (l : List A) (d : A) → no_clash clash l ≡ true → (i j : ℕ) → i < length l → j < length l
    → clash (get_or l i d) (get_or l j d) ≡ true → clash (get_or l j d) (get_or l i d) ≡ true → i ≡ j
clash_one clash l d e i j hi hj f g = go (places i j)
  where
    go : Places i j → i ≡ j
    go (before h) = absurd (not_both f (clash_at clash l e i j h hj d))
    go (same q) = q
    go (after h) = absurd (not_both g (clash_at clash l e j i h hi d))

-- rows of one number are one row
module _ {A : Type 0} (number : A → ℕ) (l : List A) (d : A) (e : no_clash (same_number number) l ≡ true) where
  pub one_row : (i j : ℕ) → i < length l → j < length l → numbered (number (get_or l i d)) (number (get_or l j d)) ≡ true → i ≡ j
  one_row i j hi hj f =
      clash_one (same_number number) l d e i j hi hj f
      (sym (numbered_symmetric (number (get_or l i d)) (number (get_or l j d))) ∙ f)
