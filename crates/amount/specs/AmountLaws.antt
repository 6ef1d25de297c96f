-- Laws of the definitions in Amount.antt: the units, and the division in two parts, whole and fraction.
use Rattle.std.specs.Prelude.{◌≡◌, refl, Bool, true, false, ◌&&◌, cond, List, [], ◌∷◌, ℕ, ◌+◌, ◌*◌, ◌/◌, ◌%◌, ◌^◌, ◌<◌, ◌≤◌, eqb, Option, Some, None, Ok, Err}
use Rattle.std.proofs.Common.{sym, ◌∙◌, add-mul, mul_comm, mul_right_comm, mul-le-mul, lt_of_lt_of_le, lt_of_le_of_lt, le-add_right, mul-lt-mul_of_pos_right, div-lt_iff_lt-mul, le-div_iff_mul-le, arith, lit<, lit≤}
use Rattle.std.proofs.Math.Nat.{mul-add-div_right, mul-add-mod_self_right, pow-le-pow_right, one-le-pow}
use borrow.Author.Tests.{eq-eqb, ne_eqb, le-leb, lt-leb}
use Rattle.lists.specs.Bytes.{same_bytes}
use Rattle.amount.specs.declared.unit.ByteUnit.{ByteUnit}
use Rattle.amount.specs.declared.unit.ByteUnit.TheVariants.{B, KiB, MiB, GiB}
use Rattle.amount.specs.declared.Cap.TheVariants.{Bytes}
use Rattle.amount.specs.declared.error.AmountError.TheVariants.{NotWhole, TooLarge}
use Rattle.amount.specs.Amount.{limit, space, size_of, name_of, unit_named, unit_after, counted}

-- A unit has from 1 to 2^30 bytes.
pub size_pos : (u : ByteUnit) → 0 < size_of u
size_pos B = lit< tt
size_pos KiB = lit< tt
size_pos MiB = lit< tt
size_pos GiB = lit< tt

pub size_most : (u : ByteUnit) → size_of u ≤ 2 ^ 30
size_most B = lit≤ tt
size_most KiB = lit≤ tt
size_most MiB = lit≤ tt
size_most GiB = lit≤ tt

pub power_pos : (k : ℕ) → 0 < 10 ^ k
power_pos k = one-le-pow k 10 (lit< tt)

-- The unit by all that stands after the number: a space and a name.
pub unit_compared : (t : List ℕ) (r : Option ByteUnit)
    → r ≡ cond (same_bytes t (space ∷ name_of B)) (Some B) (cond (same_bytes t (space ∷ name_of KiB)) (Some KiB) (cond (same_bytes t (space ∷ name_of MiB)) (Some MiB) (cond (same_bytes t (space ∷ name_of GiB)) (Some GiB) None)))
    → r ≡ unit_after t
unfolding unit_after unit_named
unit_compared [] r e = e
unit_compared (b ∷ t) r e = e ∙ go (eqb b space)
  where
    go : (q : Bool)
        → cond (q && same_bytes t (name_of B)) (Some B) (cond (q && same_bytes t (name_of KiB)) (Some KiB) (cond (q && same_bytes t (name_of MiB)) (Some MiB) (cond (q && same_bytes t (name_of GiB)) (Some GiB) None)))
        ≡ cond q (unit_named t) None
    go true = refl
    go false = refl

-- The whole part, w units, and the fraction's part, f of p parts of a unit, divided apart.
module _ (w f p u : ℕ) where
  joined : (w * p + f) * u ≡ w * u * p + f * u
  joined = rw (add-mul (w * p) f u, mul_right_comm w p u)

  pub part_whole : (w * p + f) * u % p ≡ f * u % p
  part_whole = rw joined (mul-add-mod_self_right (w * u) p (f * u))

  pub part_quotient : 0 < p → (w * p + f) * u / p ≡ w * u + f * u / p
  part_quotient h = rw joined (mul-add-div_right h (w * u) (f * u))

-- The three answers of a division.
module _ (n p : ℕ) where
  pub counted_part : (n % p ≡ 0 → ⊥) → counted n p ≡ Err NotWhole
  unfolding counted
  counted_part h = rw (ne_eqb (n % p) 0 h)

  pub counted_above : n % p ≡ 0 → limit < n / p → counted n p ≡ Err TooLarge
  unfolding counted
  counted_above h l = rw (eq-eqb (n % p) 0 h, lt-leb (n / p) limit l)

  pub counted_read : n % p ≡ 0 → n / p ≤ limit → counted n p ≡ Ok (Bytes (n / p))
  unfolding counted
  counted_read h l = rw (eq-eqb (n % p) 0 h, le-leb (n / p) limit l)

-- More units than fit in the limit.
pub whole_above : (w u : ℕ) → 0 < u → limit / u < w → limit < w * u
whole_above w u h l = (div-lt_iff_lt-mul h).0 l

pub whole_within : (w u : ℕ) → 0 < u → w ≤ limit / u → w * u ≤ limit
whole_within w u h l = (le-div_iff_mul-le h).0 l

-- The fraction's part is less than a unit.
pub fraction_below : (f p u : ℕ) → f < p → 0 < u → f * u / p < u
fraction_below f p u h k =
    let pos : 0 < p = omega arith in
    (div-lt_iff_lt-mul pos).1 (rw (mul_comm u p) (mul-lt-mul_of_pos_right h k))

-- The fraction times the unit fits in 64 bits.
pub fraction_fits : (f k : ℕ) (u : ByteUnit) → f < 10 ^ k → k ≤ 9 → f * size_of u < 2 ^ 64
fraction_fits f k u h l =
    let p = pow-le-pow_right {n = 10} (lit< tt) {i = k} {j = 9} l in
    let b : f ≤ 10 ^ 9 = omega arith in
    lt_of_le_of_lt (mul-le-mul b (size_most u)) (lit< tt)

-- The answers by way of the two parts: w whole units, f of 10^k parts, with the power and the unit's size at hand.
module _ (w f k : ℕ) (u : ByteUnit) {power bytes : ℕ} (ep : power ≡ 10 ^ k) (eb : bytes ≡ size_of u) where
  remainder : (w * 10 ^ k + f) * size_of u % 10 ^ k ≡ f * bytes % power
  remainder = rw (ep, eb) (part_whole w f (10 ^ k) (size_of u))

  quotient : (w * 10 ^ k + f) * size_of u / 10 ^ k ≡ w * bytes + f * bytes / power
  quotient = rw (ep, eb) (part_quotient w f (10 ^ k) (size_of u) (power_pos k))

  pub parts_part : (f * bytes % power ≡ 0 → ⊥) → counted ((w * 10 ^ k + f) * size_of u) (10 ^ k) ≡ Err NotWhole
  parts_part h = counted_part _ _ (λ e. h (sym remainder ∙ e))

  pub parts_above : f * bytes % power ≡ 0 → limit < w * bytes + f * bytes / power → counted ((w * 10 ^ k + f) * size_of u) (10 ^ k) ≡ Err TooLarge
  parts_above h l = counted_above _ _ (remainder ∙ h) (rw quotient l)

  pub parts_far : f * bytes % power ≡ 0 → limit / bytes < w → counted ((w * 10 ^ k + f) * size_of u) (10 ^ k) ≡ Err TooLarge
  parts_far h l = parts_above h (lt_of_lt_of_le (whole_above w bytes (rw eb (size_pos u)) l) (le-add_right _ _))

  pub parts_read : f * bytes % power ≡ 0 → w * bytes + f * bytes / power ≤ limit
      → counted ((w * 10 ^ k + f) * size_of u) (10 ^ k) ≡ Ok (Bytes (w * bytes + f * bytes / power))
  parts_read h l = counted_read _ _ (remainder ∙ h) (rw quotient l) ∙ rw quotient

  -- The count fits in 64 bits before it is held to the limit.
  pub parts_fit : f < 10 ^ k → w ≤ limit / bytes → w * bytes + f * bytes / power < 2 ^ 64
  parts_fit h l =
      let pos : 0 < bytes = rw eb (size_pos u) in
      let below : f < power = rw ep h in
      let most : bytes ≤ 2 ^ 30 = rw eb (size_most u) in
      omega (arith, whole_within w bytes pos l, fraction_below f power bytes below pos)
