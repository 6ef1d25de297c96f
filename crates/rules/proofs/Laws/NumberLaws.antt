-- Laws of numbers that no two rows have: what a search for one finds, and that they stay apart where a row keeps its own or takes a new one.
-- Assumes nothing.
use Rattle.std.specs.Prelude.{◌≡◌, refl, Bool, true, false, List, ℕ, ◌<◌, eqb, length, get_or, set}
use Rattle.std.proofs.Common.{ap, sym, ◌∙◌, arith, ltb-true, lt-ltb, eqb-true}
use Rattle.std.proofs.Math.Seq.{map-set_same}
use Rattle.lists.specs.Lists.{hit, find, all_of, any_of, no_clash}
use Rattle.lists.specs.BoolLaws.{and_left, and_right, not_pass}
use Rattle.lists.specs.SearchLaws.{found_below, found_at, row_passes}
use Rattle.lists.specs.TestLaws.{all_at, at_any}
use Rattle.lists.specs.RowLaws.{clash_map}
use Rattle.rules.specs.Tables.{given, numbered}
use Rattle.rules.proofs.Laws.SetLaws.{clash_set}

-- a row of a number that was given: it is in use, and the number is its own
pub numbered_used : (n m : ℕ) → numbered n m ≡ true → given m ≡ true
numbered_used n m e =
    lt-ltb 0 m (omega (arith, ltb-true 0 n (and_left (given n) (eqb m n) e), eqb-true m n (and_right (given n) (eqb m n) e)))

pub numbered_eq : (n m : ℕ) → numbered n m ≡ true → m ≡ n
numbered_eq n m e = eqb-true m n (and_right (given n) (eqb m n) e)

pub numbered_other : (n m : ℕ) → (m ≡ n → ⊥) → numbered n m ≡ false
numbered_other n m h = not_pass (numbered n m) (λ e. h (numbered_eq n m e))

-- two numbers are the same, of rows that f numbers
abbrev pub same_number : {A : Type 0} → (A → ℕ) → A → A → Bool
same_number f a b = numbered (f a) (f b)

module _ {A : Type 0} where
  -- what is found passes what every row passes
  pub found_passes : (p q : A → Bool) (l : List A) (i : ℕ) (x : A) → all_of q l ≡ true → find p l ≡ hit i x → q x ≡ true
  found_passes p q l i x a e = rw (found_at p l i x e x) at (all_at q l a i (found_below p l i x e) x)

  -- some row passes where one is found
  pub found_some : (p : A → Bool) (l : List A) (i : ℕ) (x : A) → find p l ≡ hit i x → any_of p l ≡ true
  found_some p l i x e = at_any p l i x (found_below p l i x e) (rw (found_at p l i x e x) (row_passes p l 0 i x e))

  -- a row that keeps its number
  pub same_number_lem : (f : A → ℕ) (l : List A) (i : ℕ) (y d : A) → f y ≡ f (get_or l i d) → no_clash (same_number f) (set l i y) ≡ no_clash (same_number f) l
  same_number_lem f l i y d e =
      clash_map (same_number f) numbered f (set l i y) (λ a b. refl)
      ∙ ap (no_clash numbered) (map-set_same f l i y d e)
      ∙ sym (clash_map (same_number f) numbered f l (λ a b. refl))

  -- a row whose number is above all others
  pub new_number : (f : A → ℕ) (l : List A) (i : ℕ) (y : A) → no_clash (same_number f) l ≡ true → ((j : ℕ) → j < length l → f (get_or l j y) < f y)
      → no_clash (same_number f) (set l i y) ≡ true
  new_number f l i y c h =
      clash_set (same_number f) l i y c
      (λ j k. numbered_other (f (get_or l j y)) (f y) (λ e. omega (arith, h j k)))
      (λ j k. numbered_other (f y) (f (get_or l j y)) (λ e. omega (arith, h j k)))
