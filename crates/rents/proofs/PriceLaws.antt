-- Products that fit 64 bits where K, M and the raw bytes are within the limits, and the rent by what the code worked out. Assumes nothing.
use mathlib.Core.Path.{◌≡◌, sym, ◌∙◌}
use mathlib.Core.Bool.{Bool, true, false, not}
use mathlib.Core.List.{[], ◌∷◌}
use Rattle.std.specs.Prelude.{Some, None}
use Prim.Native.Nat.{ℕ, ◌+◌, ◌*◌, ◌^◌, ◌<◌, ◌≤◌}
use native.Mathlib.Nat.{mul-le-mul}
use native.Mathlib.Omega.{arith}
use mir.Val.{Fits}
use mir.Syntax.{w64}
use borrow.Author.Rules.{rules}
use borrow.Author.Tests.{not-true, not-false, leb-true, le-leb, lt-leb}
use lib.Dec.{leb}
use Rattle.lists.specs.Lists.{total}
use Rattle.lists.specs.BoolLaws.{and_left, and_right}
use Rattle.text.specs.Text.{within}
use Rattle.rules.specs.Relays.{ceil_div}
use Rattle.rules.specs.Rent.{effective, rent_of}
use Rattle.rules.specs.Sound.{shards_fit}
use Rattle.rules.proofs.Laws.CeilLaws.{ceil_most}
use Rattle.rents.specs.Within.{raw_limit, most_effective, rent_within}

module _ (k m raw : ℕ) (s : shards_fit k m ≡ true) (h : raw ≤ raw_limit) where
  k_fits : (2 ≤ k) × (k ≤ 16)
  k_fits =
      let w = and_left (within 2 16 k) (within 1 8 m) s in
      (leb-true 2 k (and_left (leb 2 k) (leb k 16) w), leb-true k 16 (and_right (leb 2 k) (leb k 16) w))

  pub k_some : k ≡ 0 → ⊥
  k_some = omega (arith, k_fits.0)

  m_fits : m ≤ 8
  m_fits = leb-true m 8 (and_right (leb 1 m) (leb m 8) (and_right (within 2 16 k) (within 1 8 m) s))

  all_bytes : raw * (k + m) ≤ raw_limit * 24
  all_bytes = let w : k + m ≤ 24 = omega (arith, k_fits.1, m_fits) in mul-le-mul h w

  pub bytes_fit : Fits w64 (raw * (k + m))
  bytes_fit = record { fits = omega (arith, all_bytes) }

  -- r is what the code worked out
  module _ (r : ℕ) (e : r ≡ ceil_div (raw * (k + m)) k) where
    pub effective_is : r ≡ effective k m (raw ∷ [])
    unfolding effective total
    effective_is = let z : raw ≡ raw + 0 = omega arith in e ∙ rw (← z)

    pub effective_most : r ≤ most_effective
    effective_most = omega (arith, e, ceil_most (raw * (k + m)) k k_some, all_bytes)

pub coins_fit : (size rate : ℕ) → size ≤ most_effective → rate < 2 ^ 16 → Fits w64 (size * rate)
coins_fit size rate h k =
    let r : rate ≤ 65535 = omega arith in
    let p : size * rate ≤ most_effective * 65535 = mul-le-mul h r in
    record { fits = omega arith }

pub ruleset sizes-fit = (bytes_fit, effective_is, effective_most, rules)

-- b is what the code said of K and M
module _ (rate k m raw : ℕ) (b : Bool) (e : b ≡ shards_fit k m) where
  pub shards_past : not b ≡ true → None ≡ rent_within rate k m raw
  unfolding rent_within
  shards_past t = sym (rw (sym e ∙ not-true b t))

  module _ (t : not b ≡ false) where
    pub shards_within : shards_fit k m ≡ true
    shards_within = sym e ∙ not-false b t

    pub raw_past : raw_limit < raw → None ≡ rent_within rate k m raw
    unfolding rent_within
    raw_past h = sym (rw (shards_within, lt-leb raw raw_limit h))

    pub price_is : (size coins : ℕ) → raw ≤ raw_limit → size ≡ effective k m (raw ∷ []) → coins ≡ rent_of rate size → Some coins ≡ rent_within rate k m raw
    unfolding rent_within
    price_is size coins h f g = rw (g, f) (sym (rw (shards_within, le-leb raw raw_limit h)))

pub ruleset prices = (price_is, raw_past, shards_past, rules)
