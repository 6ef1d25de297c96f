-- The loop that counts the rows of a table, or of its first k, that pass a test: its invariant at row i of n, and the laws of its start, its step
-- and its end. Assumes nothing.
use mathlib.Core.Path.{◌≡◌, refl, sym}
use mathlib.Core.Bool.{Bool, true, false}
use mathlib.Core.List.{List}
use Prim.Native.Nat.{ℕ, ◌+◌, ◌<◌, ◌≤◌}
use native.Mathlib.Omega.{arith}
use lib.ListN.{length, drop, get_or, take, length-take}
use lib.Seq.{get_or-take}
use Rattle.lists.specs.Lists.{count_if}
use Rattle.lists.specs.LoopLaws.{sizes}
use Rattle.lists.specs.SumLaws.{count_here, count_on, count_end}

-- what was counted so far, with the count of the rows from i on, is the whole
pub record CountLoop {A : Type 0} (p : A → Bool) (l : List A) (n i sum : ℕ) : Type 0 where
  pub size : length l ≡ n
  pub passed : sum ≤ i
  pub rest : sum + count_if p (drop i l) ≡ count_if p l

module _ {A : Type 0} (p : A → Bool) (l : List A) where
  pub count_start : (n : ℕ) → length l ≡ n → CountLoop p l n 0 0
  count_start n e = record { size = e; passed = omega arith; rest = omega arith }

  pub count_all : (n i sum : ℕ) → CountLoop p l n i sum → n ≤ i → sum ≡ count_if p l
  count_all n i sum h k = count_end p l i sum (omega (arith, h.size)) h.rest

-- b is what the code's test said of row i, d stands for a row past the end, and s is the count after it
module _ {A : Type 0} (d : A) (p : A → Bool) (l : List A) (n i sum : ℕ) (b : Bool) (s : ℕ) where
  pub count_adds : CountLoop p l n i sum → i < n → b ≡ p (get_or l i d) → b ≡ true → s ≡ sum + 1 → CountLoop p l n (i + 1) s
  count_adds h k e t q =
      rw q (record { size = h.size; passed = omega (arith, h.passed); rest = count_here p l d i sum (omega (arith, h.size)) h.rest e t })

  pub count_skips : CountLoop p l n i sum → i < n → b ≡ p (get_or l i d) → b ≡ false → s ≡ sum → CountLoop p l n (i + 1) s
  count_skips h k e t q =
      rw q (record { size = h.size; passed = omega (arith, h.passed); rest = count_on p l d i sum (omega (arith, h.size)) h.rest e t })

-- where the code compares by itself, and calls no function for its test: d is then to be given
module _ {A : Type 0} (d : A) (p : A → Bool) (l : List A) (n i sum s : ℕ) where
  pub count_adds_row : CountLoop p l n i sum → i < n → p (get_or l i d) ≡ true → s ≡ sum + 1 → CountLoop p l n (i + 1) s
  count_adds_row h k e = count_adds d p l n i sum true s h k (sym e) refl

  pub count_skips_row : CountLoop p l n i sum → i < n → p (get_or l i d) ≡ false → s ≡ sum → CountLoop p l n (i + 1) s
  count_skips_row h k e = count_skips d p l n i sum false s h k (sym e) refl

-- the same of the first k rows
part_row : {A : Type 0} (l : List A) (k n i : ℕ) (d : A) → length (take k l) ≡ n → i < n → get_or (take k l) i d ≡ get_or l i d
part_row l k n i d e h = let w : i < k = omega (arith, length-take k l) in get_or-take k l i d w

module _ {A : Type 0} (d : A) (p : A → Bool) (l : List A) (k n i sum : ℕ) (b : Bool) (s : ℕ) where
  pub count_adds_part : CountLoop p (take k l) n i sum → i < n → b ≡ p (get_or l i d) → b ≡ true → s ≡ sum + 1 → CountLoop p (take k l) n (i + 1) s
  count_adds_part h w e = count_adds d p (take k l) n i sum b s h w (rw (part_row l k n i d h.size w) e)

  pub count_skips_part : CountLoop p (take k l) n i sum → i < n → b ≡ p (get_or l i d) → b ≡ false → s ≡ sum → CountLoop p (take k l) n (i + 1) s
  count_skips_part h w e = count_skips d p (take k l) n i sum b s h w (rw (part_row l k n i d h.size w) e)

pub ruleset counts = (count_adds, count_skips, count_all, count_start, sizes)

pub ruleset counts-part = (count_adds_part, count_skips_part, count_all, count_start, sizes)
