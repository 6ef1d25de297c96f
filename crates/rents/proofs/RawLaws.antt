-- The loop that adds up a volume's bytes, in a sum that stays at 2^64 - 1 where it would pass it. Assumes nothing.
use mathlib.Core.Path.{◌≡◌, refl}
use mathlib.Core.Bool.{Bool, true, false, cond}
use mathlib.Core.List.{List, [], ◌∷◌}
use Prim.Native.Nat.{ℕ, ◌+◌, ◌<◌, ◌≤◌, min}
use native.Mathlib.Numerals.{add-one}
use native.Mathlib.Omega.{arith}
use lib.Dec.{eqb}
use Rattle.std.proofs.Common.{⊎_elim, eqb-true}
use Rattle.std.proofs.lemmas.Bool.{eqb-false}
use Rattle.lists.specs.BoolLaws.{pass_or_fail}
use lib.ListN.{length, drop, get_or, drop_of_length-le}
use lib.Seq.{drop-cons}
use Rattle.rules.specs.Tables.{numbered}
use Rattle.rents.specs.Within.{most_raw, sizes_at}

-- no sizes, no sum
none_at : (n : ℕ) (ms : List ℕ) → sizes_at n ms [] ≡ 0
unfolding sizes_at
none_at n [] = refl
none_at n (m ∷ ms) = refl

-- what was added so far, with the sizes from i on, is the whole
pub record RawLoop (n : ℕ) (ms sizes : List ℕ) (i sum : ℕ) : Type 0 where
  pub few : sum ≤ most_raw
  pub rest : min (sum + sizes_at n (drop i ms) (drop i sizes)) most_raw ≡ min (sizes_at n ms sizes) most_raw

module _ (n : ℕ) (ms sizes : List ℕ) where
  pub raw_start : RawLoop n ms sizes 0 0
  raw_start = record { few = omega arith; rest = omega arith }

  module _ (i sum : ℕ) (h : RawLoop n ms sizes i sum) where
    raw_end : length ms ≤ i → sum ≡ min (sizes_at n ms sizes) most_raw
    unfolding sizes_at
    raw_end k =
        let z : sizes_at n (drop i ms) (drop i sizes) ≡ 0 = rw (drop_of_length-le ms {i = i} k) in
        omega (arith, h.rest, h.few)

    raw_short : length sizes ≤ i → sum ≡ min (sizes_at n ms sizes) most_raw
    raw_short k =
        let z : sizes_at n (drop i ms) (drop i sizes) ≡ 0 = rw (drop_of_length-le sizes {i = i} k) (none_at n (drop i ms)) in
        omega (arith, h.rest, h.few)

    pub raw_over : i ≡ min (length ms) (length sizes) → sum ≡ min (sizes_at n ms sizes) most_raw
    raw_over e =
        ⊎_elim
        (λ w. raw_end (omega (arith, eqb-true i (length ms) w)))
        (λ w. raw_short (omega (arith, eqb-false i (length ms) w)))
        (pass_or_fail (eqb i (length ms)))

    -- b is what the code said of number i, and next the sum after it
    module _ (b : Bool) (next : ℕ) (k : i < length ms) (l : i < length sizes) (e : b ≡ numbered n (get_or ms i 0)) where
      first : sizes_at n (drop i ms) (drop i sizes) ≡ cond b (get_or sizes i 0) 0 + sizes_at n (drop (i + 1) ms) (drop (i + 1) sizes)
      unfolding sizes_at
      first = rw (add-one i, drop-cons ms i 0 k, drop-cons sizes i 0 l, e)

      pub raw_adds : b ≡ true → next ≡ min (sum + get_or sizes i 0) most_raw → RawLoop n ms sizes (i + 1) next
      raw_adds t f = record { few = omega arith; rest = omega (arith, h.rest, h.few, rw t at first) }

      pub raw_skips : b ≡ false → next ≡ sum → RawLoop n ms sizes (i + 1) next
      raw_skips t f = record { few = omega (arith, h.few); rest = omega (arith, h.rest, rw t at first) }
