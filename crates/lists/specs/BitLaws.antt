-- Laws of bit_set: a set of rows built up from the first row by `set |= 1 << i`, its count of ones, and reading a bit. Assumes nothing.
use Rattle.std.specs.Prelude.{◌≡◌, Bool, true, false, List, [], ◌∷◌, ◌++◌, ℕ, zero, suc, ◌+◌, ◌*◌, ◌/◌, ◌%◌, ◌^◌, ◌<◌, ◌≤◌, eqb, length, get_or, take}
use Rattle.std.proofs.Math.Path.{refl}
use Rattle.std.proofs.Common.{ap, ap₂, sym, ◌∙◌, pow-suc, mod-eq_of_lt, not-suc-le-zero, le_of_suc-le-suc, le_of_lt, zero-mul, add-one, arith, eq-eqb, ne_eqb, take_all, take-suc, length-take-le}
use Rattle.std.proofs.Math.Nat.{pow-succ', div-div-eq-div-mul}
use Rattle.std.proofs.Math.Pow.{pow-lt}
use Rattle.std.specs.Int.Bits.{bit_or, or_shifted_r}
use Rattle.std.specs.Int.Count.{ones, ones_step}
use Rattle.lists.specs.Lists.{bit, bit_set, count_if}
use Rattle.lists.specs.SumLaws.{bit_lt}

-- the count of ones is the number of rows that pass the test
pub ones_rows : {A : Type 0} (p : A → Bool) (l : List A) → ones (bit_set p l) ≡ count_if p l
unfolding bit_set count_if ones
ones_rows p [] = refl
ones_rows p (x ∷ xs) =
    let n = bit (p x) + 2 * bit_set p xs in
    let a : n % 2 ≡ bit (p x) = omega (arith, bit_lt (p x)) in
    let b : n / 2 ≡ bit_set p xs = omega (arith, bit_lt (p x)) in
    ones_step n ∙ ap₂ (λ (u v : ℕ). u + ones v) a b ∙ ap (λ (u : ℕ). bit (p x) + u) (ones_rows p xs)

-- a set of n rows is below 2 ^ n
pub set_lt : {A : Type 0} (p : A → Bool) (l : List A) → bit_set p l < 2 ^ length l
unfolding bit_set
set_lt p [] = omega arith
set_lt p (x ∷ xs) = omega (arith, set_lt p xs, bit_lt (p x), pow-suc 2 (length xs))

-- a set built from the first row to the last: one row more, and its bound
snoc : (b c : Bool) (s m t : ℕ) → t ≡ bit b * m + s → bit c + 2 * t ≡ bit b * (m * 2) + (bit c + 2 * s)
snoc true c s m t e = omega arith
snoc false c s m t e = omega arith

set_snoc : {A : Type 0} (p : A → Bool) (l : List A) (y : A) → bit_set p (l ++ (y ∷ [])) ≡ bit (p y) * 2 ^ length l + bit_set p l
unfolding bit_set
set_snoc p [] y = omega arith
set_snoc p (x ∷ xs) y =
    snoc (p y) (p x) (bit_set p xs) (2 ^ length xs) (bit_set p (xs ++ (y ∷ []))) (set_snoc p xs y) ∙ rw (pow-suc 2 (length xs))

module _ {A : Type 0} (p : A → Bool) (l : List A) where
  pub up_none : 0 ≡ bit_set p (take 0 l)
  unfolding bit_set
  up_none = refl

  pub up_more : {b : Bool} {s : ℕ} (d : A) (i : ℕ) → i < length l → b ≡ p (get_or l i d) → s ≡ bit_set p (take i l)
      → bit_set p (take (i + 1) l) ≡ bit b * 2 ^ i + s
  up_more d i h e f = rw (add-one, take-suc l i d, e, f) (set_snoc p (take i l) (get_or l i d) ∙ rw (length-take-le i l (le_of_lt h)))

  pub up_here : {b : Bool} {s : ℕ} (d : A) (i : ℕ) → i < length l → b ≡ p (get_or l i d) → s ≡ bit_set p (take i l) → b ≡ true
      → bit_set p (take (i + 1) l) ≡ 1 * 2 ^ i + s
  up_here d i h e f u = let q = up_more d i h e f in rw u at q

  pub up_on : {b : Bool} {s : ℕ} (d : A) (i : ℕ) → i < length l → b ≡ p (get_or l i d) → s ≡ bit_set p (take i l) → b ≡ false
      → bit_set p (take (i + 1) l) ≡ s
  up_on d i h e f u = let q = rw u at (up_more d i h e f) in omega (arith, zero-mul (2 ^ i))

  pub up_end : {s : ℕ} (i : ℕ) → length l ≤ i → s ≡ bit_set p (take i l) → s ≡ bit_set p l
  up_end i h e = e ∙ ap (bit_set p) (take_all i l h)

  pub up_lt : (i : ℕ) → i ≤ length l → bit_set p (take i l) < 2 ^ i
  up_lt i h = let q = set_lt p (take i l) in rw (length-take-le i l h) at q

-- the code's `s | 1 << i`, of w bits, sets a bit above all of s
pub or_row : (w s i : ℕ) → s < 2 ^ i → i < w → bit_or s (1 * 2 ^ i % 2 ^ w) ≡ 1 * 2 ^ i + s
or_row w s i h k =
    let q : 1 * 2 ^ i % 2 ^ w ≡ 1 * 2 ^ i = mod-eq_of_lt (let p = pow-lt k in omega arith) in
    rw q (or_shifted_r 1 i s h)

-- a row's bit tells whether the row passes the test
low_bit : (b : Bool) (m : ℕ) → eqb ((bit b + 2 * m) / 2 ^ 0 % 2) 1 ≡ b
low_bit true m = eq-eqb ((1 + 2 * m) / 1 % 2) 1 (omega arith)
low_bit false m = ne_eqb ((0 + 2 * m) / 1 % 2) 1 (omega arith)

next_bit : (b : Bool) (m i : ℕ) → (bit b + 2 * m) / 2 ^ suc i ≡ m / 2 ^ i
next_bit b m i =
    ap (λ (k : ℕ). (bit b + 2 * m) / k) (pow-succ' 2 i)
    ∙ sym (div-div-eq-div-mul (bit b + 2 * m) 2 (2 ^ i))
    ∙ ap (λ (n : ℕ). n / 2 ^ i) (omega (arith, bit_lt b))

pub has_row : {A : Type 0} (p : A → Bool) (l : List A) (d : A) (i : ℕ) → i < length l → eqb (bit_set p l / 2 ^ i % 2) 1 ≡ p (get_or l i d)
unfolding bit_set
has_row p [] d i h = absurd (not-suc-le-zero h)
has_row p (x ∷ xs) d zero h = low_bit (p x) (bit_set p xs)
has_row p (x ∷ xs) d (suc i) h = rw (next_bit (p x) (bit_set p xs) i) (has_row p xs d i (le_of_suc-le-suc h))

-- the same where the set and the bit are what functions returned
pub has_test : {A : Type 0} {b : Bool} {s : ℕ} (p : A → Bool) (l : List A) (d : A) (i : ℕ) → i < length l → s ≡ bit_set p l
    → b ≡ eqb (s / 2 ^ i % 2) 1 → b ≡ p (get_or l i d)
has_test p l d i h e t = t ∙ rw e (has_row p l d i h)
