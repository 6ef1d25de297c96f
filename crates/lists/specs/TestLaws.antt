-- Laws of all_of, any_of and no_clash: one step of a loop and its end, and what they say of each row. Assumes nothing.
use Rattle.std.specs.Prelude.{◌≡◌, Bool, true, false, ◌&&◌, ◌||◌, not, eqb, ltb, length, drop, get_or, replicate}
use Rattle.std.proofs.Math.Path.{refl}
use Rattle.std.proofs.Common.{sym, ◌∙◌, ⊎_elim, le_of_suc-le-suc, not-suc-le-zero, arith, drop_of_length-le}
use Rattle.std.proofs.Math.Bool.{and_assoc, or_assoc}
use mathlib.Core.List.{List, [], ◌∷◌, ◌++◌}
use Prim.Native.Nat.{ℕ, zero, suc, ◌+◌, ◌<◌, ◌≤◌}
use Rattle.std.proofs.Math.Numerals.{add-one}
use borrow.Author.Tests.{not-true, eqb-true, eqb-false, ltb-true, ltb-false}
use Rattle.std.proofs.Math.Seq.{drop-cons}
use Rattle.lists.specs.Lists.{all_of, any_of, no_clash, miss, first_row}
use Rattle.lists.specs.BoolLaws.{and_left, and_right, and_both, or_left, or_right, or_none, pass_or_fail, not_both}
use Rattle.lists.specs.SearchLaws.{row_passes, found_below, found_at, FoundRow, found_row, some_found, miss_none}

-- one step of a test of every row, and its end: b is what the test's function returned
module _ {A : Type 0} (p : A → Bool) (l : List A) where
  pub all_fails : {b : Bool} (d : A) (i : ℕ) → i < length l → b ≡ p (get_or l i d) → b ≡ false → all_of p (drop i l) ≡ false
  all_fails d i h e t = rw (drop-cons l i d, ← e, t)

  pub all_on : {b : Bool} (d : A) (i : ℕ) → i < length l → b ≡ p (get_or l i d) → b ≡ true → all_of p (drop i l) ≡ all_of p (drop (i + 1) l)
  all_on d i h e t = rw (add-one, drop-cons l i d, ← e, t)

  pub all_end : (i : ℕ) → length l ≤ i → all_of p (drop i l) ≡ true
  all_end i h = rw (drop_of_length-le l h)

  pub any_here : {b : Bool} (d : A) (i : ℕ) → i < length l → b ≡ p (get_or l i d) → b ≡ true → any_of p (drop i l) ≡ true
  any_here d i h e t = rw (drop-cons l i d, ← e, t)

  pub any_on : {b : Bool} (d : A) (i : ℕ) → i < length l → b ≡ p (get_or l i d) → b ≡ false → any_of p (drop i l) ≡ any_of p (drop (i + 1) l)
  any_on d i h e t = rw (add-one, drop-cons l i d, ← e, t)

  pub any_end : (i : ℕ) → length l ≤ i → any_of p (drop i l) ≡ false
  any_end i h = rw (drop_of_length-le l h)

-- one row against the later ones: b is what the search for a clash returned
module _ {A : Type 0} (clash : A → A → Bool) (l : List A) where
  pub clash_here : {b : Bool} (d : A) (i : ℕ) → i < length l → b ≡ any_of (clash (get_or l i d)) (drop (i + 1) l) → b ≡ true
      → no_clash clash (drop i l) ≡ false
  unfolding no_clash
  clash_here d i h e t = let q = rw add-one at e in rw (drop-cons l i d, ← q, t)

  pub clash_on : {b : Bool} (d : A) (i : ℕ) → i < length l → b ≡ any_of (clash (get_or l i d)) (drop (i + 1) l) → b ≡ false
      → no_clash clash (drop i l) ≡ no_clash clash (drop (i + 1) l)
  unfolding no_clash
  clash_on d i h e t = let q = rw add-one at e in rw (add-one, drop-cons l i d, ← q, t)

  pub clash_end : (i : ℕ) → length l ≤ i → no_clash clash (drop i l) ≡ true
  unfolding no_clash
  clash_end i h = rw (drop_of_length-le l h)

-- every row passes: of each index, and back
pub all_at : {A : Type 0} (p : A → Bool) (l : List A) → all_of p l ≡ true → (j : ℕ) → j < length l → (d : A) → p (get_or l j d) ≡ true
all_at p [] e j h d = absurd (not-suc-le-zero h)
all_at p (x ∷ xs) e zero h d = and_left (p x) (all_of p xs) e
all_at p (x ∷ xs) e (suc j) h d = all_at p xs (and_right (p x) (all_of p xs) e) j (le_of_suc-le-suc h) d

pub at_all : {A : Type 0} (p : A → Bool) (l : List A) (d : A) → ((j : ℕ) → j < length l → p (get_or l j d) ≡ true) → all_of p l ≡ true
at_all p [] d f = refl
at_all p (x ∷ xs) d f = and_both (f 0 (omega arith)) (at_all p xs d (λ j h. f (suc j) (omega arith)))

-- some row passes: none does at each index, and back
pub none_at : {A : Type 0} (p : A → Bool) (l : List A) → any_of p l ≡ false → (j : ℕ) → j < length l → (d : A) → p (get_or l j d) ≡ false
none_at p [] e j h d = absurd (not-suc-le-zero h)
none_at p (x ∷ xs) e zero h d = or_left (p x) (any_of p xs) e
none_at p (x ∷ xs) e (suc j) h d = none_at p xs (or_right (p x) (any_of p xs) e) j (le_of_suc-le-suc h) d

pub at_none : {A : Type 0} (p : A → Bool) (l : List A) (d : A) → ((j : ℕ) → j < length l → p (get_or l j d) ≡ false) → any_of p l ≡ false
at_none p [] d f = refl
at_none p (x ∷ xs) d f = or_none (f 0 (omega arith)) (at_none p xs d (λ j h. f (suc j) (omega arith)))

-- some row passes: one at an index does, and back
pub at_any : {A : Type 0} (p : A → Bool) (l : List A) (j : ℕ) (d : A) → j < length l → p (get_or l j d) ≡ true → any_of p l ≡ true
at_any p l j d h e = ⊎_elim (λ t. t) (λ f. absurd (not_both e (none_at p l f j h d))) (pass_or_fail (any_of p l))

pub any_at : {A : Type 0} (p : A → Bool) (l : List A) (d : A) → any_of p l ≡ true → (j : ℕ) × (j < length l) × (p (get_or l j d) ≡ true)
any_at p l d e = go (some_found p l 0 e)
  where
    go : FoundRow (first_row p 0 l) → (j : ℕ) × (j < length l) × (p (get_or l j d) ≡ true)
    go (found_row i x q) =
        (i, found_below p l i x q, rw (found_at p l i x q d) (row_passes p l 0 i x q))

-- a search that finds nothing, at each index; and one that finds something, as some row passes
pub miss_at : {A : Type 0} (p : A → Bool) (l : List A) (k : ℕ) → first_row p k l ≡ miss
    → (j : ℕ) → j < length l → (d : A) → p (get_or l j d) ≡ false
miss_at p l k e = none_at p l (miss_none p l k e)

pub at_found : {A : Type 0} (p : A → Bool) (l : List A) (k j : ℕ) (d : A) → j < length l → p (get_or l j d) ≡ true → FoundRow (first_row p k l)
at_found p l k j d h e = some_found p l k (at_any p l j d h e)

-- every row, or some row, passes a weaker test
pub all_weaker : {A : Type 0} (p q : A → Bool) (l : List A) → ((x : A) → p x ≡ true → q x ≡ true) → all_of p l ≡ true → all_of q l ≡ true
all_weaker p q [] f e = refl
all_weaker p q (x ∷ xs) f e =
    and_both (f x (and_left (p x) (all_of p xs) e)) (all_weaker p q xs f (and_right (p x) (all_of p xs) e))

pub any_weaker : {A : Type 0} (p q : A → Bool) (l : List A) (d : A) → ((x : A) → p x ≡ true → q x ≡ true) → any_of p l ≡ true → any_of q l ≡ true
any_weaker p q l d f e = let r = any_at p l d e in at_any q l r.0 d r.1 (f (get_or l r.0 d) r.2)

-- every row passes both tests
both_step : (a b c d : Bool) → ((a && b) && (c && d)) ≡ ((a && c) && (b && d))
both_step true true c d = refl
both_step true false true d = refl
both_step true false false d = refl
both_step false b c d = refl

pub all_both : {A : Type 0} (p q r : A → Bool) (l : List A) → ((x : A) → r x ≡ (p x && q x)) → all_of r l ≡ (all_of p l && all_of q l)
all_both p q r [] f = refl
all_both p q r (x ∷ xs) f = rw (f x, all_both p q r xs f) (both_step (p x) (q x) (all_of p xs) (all_of q xs))

-- some row passes where not every row fails
not_step : (a b : Bool) → (not a && not b) ≡ not (a || b)
not_step true b = refl
not_step false b = refl

pub all_not : {A : Type 0} (p q : A → Bool) (l : List A) → ((x : A) → q x ≡ not (p x)) → all_of q l ≡ not (any_of p l)
all_not p q [] f = refl
all_not p q (x ∷ xs) f = rw (f x, all_not p q xs f) (not_step (p x) (any_of p xs))

-- of two lists joined, and of one row repeated
module _ {A : Type 0} (p : A → Bool) where
  pub all_append : (l m : List A) → all_of p (l ++ m) ≡ (all_of p l && all_of p m)
  all_append [] m = refl
  all_append (x ∷ xs) m = rw (all_append xs m) (sym (and_assoc (p x) (all_of p xs) (all_of p m)))

  pub any_append : (l m : List A) → any_of p (l ++ m) ≡ (any_of p l || any_of p m)
  any_append [] m = refl
  any_append (x ∷ xs) m = rw (any_append xs m) (sym (or_assoc (p x) (any_of p xs) (any_of p m)))

  pub all_replicate : (n : ℕ) (x : A) → p x ≡ true → all_of p (replicate n x) ≡ true
  all_replicate zero x e = refl
  all_replicate (suc n) x e = and_both e (all_replicate n x e)

  pub any_replicate : (n : ℕ) (x : A) → p x ≡ false → any_of p (replicate n x) ≡ false
  any_replicate zero x e = refl
  any_replicate (suc n) x e = or_none e (any_replicate n x e)

-- no row clashes with a later one: of each two indexes, and back
module _ {A : Type 0} (clash : A → A → Bool) where
  pub clash_at : (l : List A) → no_clash clash l ≡ true → (i j : ℕ) → i < j → j < length l → (d : A)
      → clash (get_or l i d) (get_or l j d) ≡ false
  unfolding no_clash
  clash_at [] e i j h k d = absurd (not-suc-le-zero k)
  clash_at (x ∷ xs) e i zero h k d = absurd (not-suc-le-zero h)
  clash_at (x ∷ xs) e zero (suc j) h k d =
      let n = not-true (any_of (clash x) xs) (and_left (not (any_of (clash x) xs)) (no_clash clash xs) e) in
      none_at (clash x) xs n j (le_of_suc-le-suc k) d
  clash_at (x ∷ xs) e (suc i) (suc j) h k d =
      clash_at xs (and_right (not (any_of (clash x) xs)) (no_clash clash xs) e) i j (le_of_suc-le-suc h) (le_of_suc-le-suc k) d

  pub at_clash : (l : List A) (d : A) → ((i j : ℕ) → i < j → j < length l → clash (get_or l i d) (get_or l j d) ≡ false)
      → no_clash clash l ≡ true
  unfolding no_clash
  at_clash [] d f = refl
  at_clash (x ∷ xs) d f =
      rw (at_none (clash x) xs d (λ j h. f 0 (suc j) (omega arith) (omega arith)))
      (at_clash xs d (λ i j h k. f (suc i) (suc j) (omega arith) (omega arith)))

  -- two rows that clash are one
  pub clash_one : (l : List A) → no_clash clash l ≡ true → ((x y : A) → clash x y ≡ clash y x) → (i j : ℕ) → i < length l → j < length l → (d : A)
      → clash (get_or l i d) (get_or l j d) ≡ true → i ≡ j
  clash_one l e symmetric i j h k d t =
      ⊎_elim
      (λ q. eqb-true i j q)
      (λ n.
      ⊎_elim
      (λ a. absurd (not_both t (clash_at l e i j (ltb-true i j a) k d)))
      (λ a.
      let b = ltb-false i j a in
      let m = eqb-false i j n in
      absurd (not_both t (symmetric (get_or l i d) (get_or l j d) ∙ clash_at l e j i (after i j m b) h d)))
      (pass_or_fail (ltb i j)))
      (pass_or_fail (eqb i j))
    where
      after : (a b : ℕ) → (a ≡ b → ⊥) → b ≤ a → b < a
      after a b n h = omega arith
