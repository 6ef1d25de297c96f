-- The loop that marks the remainders of numbers by 64: where no mark is met twice, no two numbers are the same. Assumes nothing.
use mathlib.Core.Path.{◌≡◌, sym, ◌∙◌}
use mathlib.Core.Bool.{Bool, true, false}
use mathlib.Core.Logic.{⊎_elim}
use mathlib.Core.List.{List}
use Prim.Native.Nat.{ℕ, ◌+◌, ◌%◌, ◌<◌, ◌≤◌}
use native.Mathlib.Nat.{eq-or-lt_of_le}
use native.Mathlib.Omega.{arith}
use borrow.Author.Rules.{rules}
use borrow.Author.Tests.{eqb-true, eqb-false, ne_eqb}
use lib.Dec.{eqb}
use lib.ListN.{length, get_or, set, replicate, length-set, length-replicate}
use lib.Seq.{get_or-set_same, get_or-set_other}
use Rattle.lists.specs.Lists.{no_clash}
use Rattle.lists.specs.BoolLaws.{not_both, pass_or_fail}
use Rattle.lists.specs.TestLaws.{at_clash}
use Rattle.sound_rows.specs.Places.{same_number}

-- the remainders of the first i numbers are marked, and those numbers differ
pub record SeenLoop (l : List ℕ) (i : ℕ) (seen : List Bool) : Type 0 where
  pub size : length seen ≡ 64
  pub place : i ≤ length l
  pub marks : (j : ℕ) → j < i → get_or seen (get_or l j 0 % 64) false ≡ true
  pub apart : (j k : ℕ) → j < k → k < i → same_number (get_or l j 0) (get_or l k 0) ≡ false

-- a mark more leaves the others
marked : (seen : List Bool) (r k : ℕ) → r < length seen → get_or seen k false ≡ true → get_or (set seen r true) k false ≡ true
marked seen r k h e =
    ⊎_elim
    (λ w. let z : k ≡ r = eqb-true k r w in rw z (get_or-set_same seen r true false h))
    (λ w. get_or-set_other seen r k true false (eqb-false k r w) ∙ e)
    (pass_or_fail (eqb k r))

module _ (l : List ℕ) where
  pub seen_start : SeenLoop l 0 (replicate 64 false)
  seen_start =
      record { size = length-replicate {A = Bool} 64 false; place = omega arith; marks = λ j h. absurd (omega arith); apart = λ j k h w. absurd (omega arith) }

  module _ (i : ℕ) (seen : List Bool) (h : SeenLoop l i seen) where
    pub seen_end : length l ≤ i → no_clash same_number l ≡ true
    seen_end w = at_clash same_number l 0 (λ j k q p. h.apart j k q (omega arith))

    pub seen_size : length seen ≡ 64
    seen_size = h.size

    pub seen_step : (r : ℕ) → i < length l → r ≡ get_or l i 0 % 64 → get_or seen r false ≡ false → SeenLoop l (i + 1) (set seen r true)
    seen_step r w e b =
        let inside : r < length seen = omega (arith, h.size) in
        record {
          size = length-set seen r true ∙ h.size;
          place = omega arith;
          marks = λ j q. ⊎_elim
              (λ z. let y : j ≡ i = omega arith in rw (y, ← e) (get_or-set_same seen r true false inside))
              (λ z. marked seen r (get_or l j 0 % 64) inside (h.marks j (omega arith)))
              (eq-or-lt_of_le q);
          apart = λ j k q z. ⊎_elim
              (λ y. let x : k ≡ i = omega arith in
              ne_eqb (get_or l k 0) (get_or l j 0)
              (λ s. not_both (h.marks j (omega arith)) (rw (← s, x, ← e) b)))
              (λ y. h.apart j k q (omega arith))
              (eq-or-lt_of_le z);
        }

pub ruleset seens = (seen_step, seen_end, seen_size, seen_start, rules)

-- what the quick test says where it passes
pub quick_differ : (l : List ℕ) (b : Bool) → (b ≡ true → no_clash same_number l ≡ true) → b ≡ true → true ≡ no_clash same_number l
quick_differ l b f t = sym (f t)
