-- Laws of the quotient rounded up, as code works it out: the whole quotient, and one more where there is a remainder. Assumes nothing.
use Rattle.std.specs.Prelude.{◌≡◌, ℕ, ◌+◌, ◌-◌, ◌*◌, ◌/◌, ◌%◌, ◌<◌, ◌≤◌, eqb, min}
use Rattle.std.proofs.Common.{ap, sym, ◌∙◌, ⊎_elim, mod-lt, div-add-mod', div-le_self, le-mul_of_pos_right, arith, Fits, eqb-true}
use Rattle.std.proofs.Math.Nat.{div-zero, div-eq_of_lt, div-eq-sub-div, add-mul-div_right}
use Rattle.std.specs.Int.{w64}
use Rattle.std.proofs.lemmas.Bool.{eqb-false}
use Rattle.lists.specs.BoolLaws.{pass_or_fail}
use Rattle.rules.specs.Relays.{ceil_div}

-- by nothing
pub ceil_none : (n d : ℕ) → d ≡ 0 → 0 ≡ ceil_div n d
ceil_none n d e = sym (rw e (div-zero (n + (0 - 1))))

module _ (n d : ℕ) (some : d ≡ 0 → ⊥) where
  above : 0 < d
  above = omega arith

  split : ceil_div n d ≡ (n % d + (d - 1)) / d + n / d
  split =
      let e : n + (d - 1) ≡ n % d + (d - 1) + n / d * d = omega (arith, div-add-mod' n d, above) in
      ap (λ (m : ℕ). m / d) e ∙ add-mul-div_right (n % d + (d - 1)) (n / d) above

  pub ceil_whole : n % d ≡ 0 → n / d ≡ ceil_div n d
  ceil_whole e =
      let s : n % d + (d - 1) < d = omega (arith, above) in
      let z : (n % d + (d - 1)) / d ≡ 0 = div-eq_of_lt s in
      omega (arith, split)

  pub ceil_more : (n % d ≡ 0 → ⊥) → n / d + 1 ≡ ceil_div n d
  ceil_more e =
      let m : ℕ = n % d + (d - 1) in
      let l : d ≤ m = omega (arith, above) in
      let s : m - d < d = omega (arith, mod-lt n above) in
      let z : (m - d) / d ≡ 0 = div-eq_of_lt s in
      omega (arith, split, div-eq-sub-div above l)

  pub ceil_fits : Fits w64 n → (n % d ≡ 0 → ⊥) → Fits w64 (n / d + 1)
  ceil_fits b e = record { fits = omega (arith, b.fits, div-add-mod' n d, le-mul_of_pos_right (n / d) above) }

  -- the whole quotient, and one more where something is left
  pub ceil_rounded : n / d + min 1 (n % d) ≡ ceil_div n d
  ceil_rounded =
      ⊎_elim
      (λ e. omega (arith, eqb-true (n % d) 0 e, ceil_whole (eqb-true (n % d) 0 e)))
      (λ e. omega (arith, eqb-false (n % d) 0 e, ceil_more (eqb-false (n % d) 0 e)))
      (pass_or_fail (eqb (n % d) 0))

  -- rounded up it is at most one more
  pub ceil_most : ceil_div n d ≤ n + 1
  ceil_most =
      ⊎_elim
      (λ e. omega (arith, ceil_whole (eqb-true (n % d) 0 e), div-le_self n d))
      (λ e. omega (arith, ceil_more (eqb-false (n % d) 0 e), div-le_self n d))
      (pass_or_fail (eqb (n % d) 0))

pub ruleset ceils = (ceil_none, ceil_rounded, ceil_whole, ceil_more, ceil_fits)
