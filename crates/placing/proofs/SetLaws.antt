-- Health and unused capacity by differences that the code may take, and the loop that makes the set of the eligible rows. Assumes nothing.
use mathlib.Core.Path.{◌≡◌, sym, ◌∙◌}
use mathlib.Core.Bool.{Bool, true, false}
use mathlib.Core.List.{List}
use Prim.Native.Nat.{ℕ, ◌+◌, ◌-◌, ◌*◌, ◌%◌, ◌^◌, ◌<◌, ◌≤◌}
use native.Mathlib.Omega.{arith}
use borrow.Author.Rules.{rules}
use borrow.Author.Tests.{le-leb, eq-eqb, leb-true, eqb-true}
use lib.Bits.{bit_or}
use lib.Dec.{eqb, leb}
use lib.ListN.{length, get_or, take}
use Rattle.lists.specs.Lists.{bit_set}
use Rattle.lists.specs.BoolLaws.{same_test}
use Rattle.lists.specs.BitLaws.{up_none, up_here, up_on, up_end, up_lt, or_row}
use Rattle.lists.specs.RowLaws.{rows_length}
use Rattle.rules.specs.Limits.{full_health, eligible_health}

-- a heartbeat after the clock leaves full health
pub full_health_lem : (clock beat : ℕ) → clock < beat → true ≡ leb eligible_health (full_health - (clock - beat))
full_health_lem clock beat h = sym (le-leb eligible_health (full_health - (clock - beat)) (omega arith))

-- health of at least 50 is at most 50 blocks
pub good_health : (blocks : ℕ) → leb blocks 50 ≡ leb eligible_health (full_health - blocks)
good_health n =
    same_test (leb n 50) (leb eligible_health (full_health - n))
    (λ e. let h : n ≤ 50 = leb-true n 50 e in le-leb eligible_health (full_health - n) (omega arith))
    (λ e. let h : eligible_health ≤ full_health - n = leb-true eligible_health (full_health - n) e in le-leb n 50 (omega arith))

-- more is used than there is: only no bytes fit
pub no_room : (bytes capacity used : ℕ) → capacity < used → eqb bytes 0 ≡ leb bytes (capacity - used)
no_room bytes capacity used h =
    same_test (eqb bytes 0) (leb bytes (capacity - used))
    (λ e. let q : bytes ≡ 0 = eqb-true bytes 0 e in le-leb bytes (capacity - used) (omega arith))
    (λ e. let q : bytes ≤ capacity - used = leb-true bytes (capacity - used) e in eq-eqb bytes 0 (omega arith))

-- the set of the first i of n rows
pub record SetLoop {A : Type 0} (p : A → Bool) (l : List A) (n i set : ℕ) : Type 0 where
  pub size : length l ≡ n
  pub place : i ≤ n
  pub made : set ≡ bit_set p (take i l)

module _ {A : Type 0} (p : A → Bool) (l : List A) where
  pub set_start : (n : ℕ) → length l ≡ n → SetLoop p l n 0 0
  set_start n e = record { size = e; place = omega arith; made = up_none p l }

  module _ (n i set : ℕ) where
    pub set_end : SetLoop p l n i set → n ≤ i → set ≡ bit_set p l
    set_end h k = up_end p l i (omega (arith, h.size)) h.made

-- b is what the code's test said of row i, and s the set after it
module _ {A : Type 0} (d : A) (p : A → Bool) (l : List A) (n i set : ℕ) (b : Bool) (s : ℕ) (h : SetLoop p l n i set) (k : i < n)
    (e : b ≡ p (get_or l i d)) where
  pub set_adds : b ≡ true → n ≤ 32 → s ≡ bit_or set (1 * 2 ^ i % 2 ^ 32) → SetLoop p l n (i + 1) s
  set_adds t m f =
      let below : set < 2 ^ i = rw h.made (up_lt p l i (omega (arith, h.size, h.place))) in
      let here = up_here p l d i (omega (arith, h.size)) e h.made t in
      record { size = h.size; place = omega arith; made = f ∙ or_row 32 set i below (omega arith) ∙ sym here }

  pub set_skips : b ≡ false → s ≡ set → SetLoop p l n (i + 1) s
  set_skips t f = record { size = h.size; place = omega arith; made = f ∙ sym (up_on p l d i (omega (arith, h.size)) e h.made t) }

pub ruleset sets = (set_adds, set_skips, set_end, set_start, rows_length, rules)
