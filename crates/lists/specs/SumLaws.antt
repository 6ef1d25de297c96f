-- Laws of count_if, sum_of, total and keep: one step of a loop and its end, bounds, and sums taken apart. Assumes nothing.
use Rattle.std.specs.Prelude.{◌≡◌, Bool, cond, not, length, drop, get_or, replicate}
use Rattle.std.proofs.Math.Path.{refl, ap, sym}
use Rattle.std.proofs.Common.{◌∙◌, suc-mul, zero-mul, le_of_suc-le-suc, not-suc-le-zero, add-one, drop_of_length-le}
use Rattle.std.proofs.Math.Bool.{true, false}
use mathlib.Core.List.{List, [], ◌∷◌, ◌++◌}
use Prim.Native.Nat.{ℕ, zero, suc, ◌+◌, ◌*◌, ◌<◌, ◌≤◌}
use native.Mathlib.Omega.{arith}
use Rattle.std.proofs.Math.Seq.{drop-cons}
use Rattle.lists.specs.Lists.{bit, count_if, sum_of, total, keep}

pub bit_lt : (b : Bool) → bit b < 2
bit_lt true = omega arith
bit_lt false = omega arith

-- counting rows: one row more, and the end
module _ {A : Type 0} (p : A → Bool) (l : List A) where
  pub count_more : {b : Bool} (d : A) (i n : ℕ) → i < length l → n + count_if p (drop i l) ≡ count_if p l → b ≡ p (get_or l i d)
      → n + bit b + count_if p (drop (i + 1) l) ≡ count_if p l
  unfolding count_if
  count_more {b} d i n h e t =
      let q : count_if p (drop i l) ≡ bit b + count_if p (drop (i + 1) l) = rw (add-one, drop-cons l i d, t) in
      omega arith

  pub count_here : {b : Bool} (d : A) (i n : ℕ) → i < length l → n + count_if p (drop i l) ≡ count_if p l → b ≡ p (get_or l i d) → b ≡ true
      → n + 1 + count_if p (drop (i + 1) l) ≡ count_if p l
  count_here d i n h e t u = let q = count_more d i n h e t in rw u at q

  pub count_on : {b : Bool} (d : A) (i n : ℕ) → i < length l → n + count_if p (drop i l) ≡ count_if p l → b ≡ p (get_or l i d) → b ≡ false
      → n + count_if p (drop (i + 1) l) ≡ count_if p l
  count_on d i n h e t u = let q = rw u at (count_more d i n h e t) in omega arith

  pub count_end : (i n : ℕ) → length l ≤ i → n + count_if p (drop i l) ≡ count_if p l → n ≡ count_if p l
  unfolding count_if
  count_end i n h e = let q : count_if p (drop i l) ≡ 0 = rw (drop_of_length-le l h) in omega arith

-- adding rows up: one row more, what is left is no more than the whole, and the end
module _ {A : Type 0} (f : A → ℕ) (l : List A) where
  pub sum_more : {v : ℕ} (d : A) (i n : ℕ) → i < length l → n + sum_of f (drop i l) ≡ sum_of f l → v ≡ f (get_or l i d)
      → n + v + sum_of f (drop (i + 1) l) ≡ sum_of f l
  unfolding sum_of
  sum_more {v} d i n h e t =
      let q : sum_of f (drop i l) ≡ v + sum_of f (drop (i + 1) l) = rw (add-one, drop-cons l i d, t) in
      omega arith

  pub sum_end : (i n : ℕ) → length l ≤ i → n + sum_of f (drop i l) ≡ sum_of f l → n ≡ sum_of f l
  unfolding sum_of
  sum_end i n h e = let q : sum_of f (drop i l) ≡ 0 = rw (drop_of_length-le l h) in omega arith

-- bounds of a count
pub count_le : {A : Type 0} (p : A → Bool) (l : List A) → count_if p l ≤ length l
unfolding count_if
count_le p [] = omega arith
count_le p (x ∷ xs) = omega (arith, count_le p xs, bit_lt (p x))

-- a sum is monotone in what is summed, and bounded by a bound of each row
pub sum_mono : {A : Type 0} (f g : A → ℕ) (l : List A) (d : A) → ((j : ℕ) → j < length l → f (get_or l j d) ≤ g (get_or l j d))
    → sum_of f l ≤ sum_of g l
unfolding sum_of
sum_mono f g [] d e = omega arith
sum_mono f g (x ∷ xs) d e = omega (arith, e 0 (omega arith), sum_mono f g xs d (λ j h. e (suc j) (omega arith)))

pub sum_le : {A : Type 0} (f : A → ℕ) (m : ℕ) (l : List A) (d : A) → ((j : ℕ) → j < length l → f (get_or l j d) ≤ m)
    → sum_of f l ≤ length l * m
unfolding sum_of
sum_le f m [] d e = omega arith
sum_le f m (x ∷ xs) d e = rw (suc-mul (length xs) m) (omega (arith, e 0 (omega arith), sum_le f m xs d (λ j h. e (suc j) (omega arith))))

-- a row is no more than the sum
pub row_le_sum : {A : Type 0} (f : A → ℕ) (l : List A) (i : ℕ) (d : A) → i < length l → f (get_or l i d) ≤ sum_of f l
unfolding sum_of
row_le_sum f [] i d h = absurd (not-suc-le-zero h)
row_le_sum f (x ∷ xs) zero d h = omega arith
row_le_sum f (x ∷ xs) (suc i) d h = omega (arith, row_le_sum f xs i d (le_of_suc-le-suc h))

-- what passes and what does not
both_cond : (b : Bool) (m : ℕ) → cond b m 0 + cond (not b) m 0 ≡ m
both_cond true m = omega arith
both_cond false m = omega arith

-- of two lists joined
module _ {A : Type 0} where
  pub sum_append : (f : A → ℕ) (l m : List A) → sum_of f (l ++ m) ≡ sum_of f l + sum_of f m
  unfolding sum_of
  sum_append f [] m = omega arith
  sum_append f (x ∷ xs) m = omega (arith, sum_append f xs m)

  pub count_append : (p : A → Bool) (l m : List A) → count_if p (l ++ m) ≡ count_if p l + count_if p m
  unfolding count_if
  count_append p [] m = omega arith
  count_append p (x ∷ xs) m = omega (arith, count_append p xs m)

  -- of one row repeated
  pub sum_replicate : (f : A → ℕ) (n : ℕ) (x : A) → sum_of f (replicate n x) ≡ n * f x
  unfolding sum_of
  sum_replicate f zero x = sym (zero-mul (f x))
  sum_replicate f (suc n) x = rw (suc-mul n (f x)) (omega (arith, sum_replicate f n x))

  pub count_replicate : (p : A → Bool) (n : ℕ) (x : A) → count_if p (replicate n x) ≡ n * bit (p x)
  unfolding count_if
  count_replicate p zero x = sym (zero-mul (bit (p x)))
  count_replicate p (suc n) x = rw (suc-mul n (bit (p x))) (omega (arith, count_replicate p n x))

  -- a count is a sum of ones
  pub count_sum : (p : A → Bool) (f : A → ℕ) (l : List A) → ((x : A) → f x ≡ bit (p x)) → count_if p l ≡ sum_of f l
  unfolding count_if sum_of
  count_sum p f [] e = refl
  count_sum p f (x ∷ xs) e = rw (e x, count_sum p f xs e)

  -- a sum of sums
  pub sum_plus : (f g h : A → ℕ) (l : List A) → ((x : A) → h x ≡ f x + g x) → sum_of h l ≡ sum_of f l + sum_of g l
  unfolding sum_of
  sum_plus f g h [] e = omega arith
  sum_plus f g h (x ∷ xs) e = omega (arith, e x, sum_plus f g h xs e)

  -- the rows that pass: their number, their sum, and with the rows that do not the whole
  length_cond : (b : Bool) (x : A) (l : List A) → length (cond b (x ∷ l) l) ≡ bit b + length l
  length_cond true x l = omega arith
  length_cond false x l = omega arith

  pub length_keep : (p : A → Bool) (l : List A) → length (keep p l) ≡ count_if p l
  unfolding count_if
  length_keep p [] = refl
  length_keep p (x ∷ xs) = length_cond (p x) x (keep p xs) ∙ ap (λ (n : ℕ). bit (p x) + n) (length_keep p xs)

  sum_cond : (f : A → ℕ) (b : Bool) (x : A) (l : List A) → sum_of f (cond b (x ∷ l) l) ≡ cond b (f x) 0 + sum_of f l
  unfolding sum_of
  sum_cond f true x l = refl
  sum_cond f false x l = omega arith

  pub sum_keep : (f g : A → ℕ) (p : A → Bool) (l : List A) → ((x : A) → g x ≡ cond (p x) (f x) 0) → sum_of f (keep p l) ≡ sum_of g l
  unfolding sum_of
  sum_keep f g p [] e = refl
  sum_keep f g p (x ∷ xs) e = sum_cond f (p x) x (keep p xs) ∙ rw (e x, sum_keep f g p xs e)

  pub sum_split : (f : A → ℕ) (p q : A → Bool) (l : List A) → ((x : A) → q x ≡ not (p x))
      → sum_of f (keep p l) + sum_of f (keep q l) ≡ sum_of f l
  unfolding sum_of
  sum_split f p q [] e = refl
  sum_split f p q (x ∷ xs) e =
      rw (e x)
      (omega (
        arith,
        sum_cond f (p x) x (keep p xs),
        sum_cond f (not (p x)) x (keep q xs),
        both_cond (p x) (f x),
        sum_split f p q xs e,
      ))

-- of two lists of numbers joined
pub total_append : (l m : List ℕ) → total (l ++ m) ≡ total l + total m
unfolding total
total_append [] m = omega arith
total_append (x ∷ xs) m = omega (arith, total_append xs m)
