-- A loop over all rows, from the last to the first, that keeps the index of the first row that passes: its invariant at row j of n, and the laws of
-- its start, its step and its end. Assumes nothing.
use Rattle.std.specs.Prelude.{Option, Some, None}
use mathlib.Core.Path.{◌≡◌, sym, ◌∙◌, ap}
use mathlib.Core.Bool.{Bool, true, false}
use mathlib.Core.List.{List}
use Prim.Native.Nat.{ℕ, ◌+◌, ◌-◌, ◌<◌, ◌≤◌}
use native.Mathlib.Omega.{arith}
use lib.ListN.{length, drop, get_or}
use Rattle.lists.specs.Lists.{first_at}
use Rattle.lists.specs.SearchLaws.{first_here, first_on, first_end}

-- the index that was found, n where there is none
abbrev pub index_or : ℕ → Option ℕ → ℕ
index_or n None = n
index_or n (Some i) = i

-- row is the first row from j on that passes
pub record DownLoop {A : Type 0} (p : A → Bool) (l : List A) (n j row : ℕ) : Type 0 where
  pub size : length l ≡ n
  pub place : j ≤ n
  pub found : row ≡ index_or n (first_at p j (drop j l))

module _ {A : Type 0} (p : A → Bool) (l : List A) (n : ℕ) where
  pub down_start : length l ≡ n → DownLoop p l n n n
  down_start e = record { size = e; place = omega arith; found = sym (ap (index_or n) (first_end p l n (omega arith))) }

  pub down_end : (j row : ℕ) → DownLoop p l n j row → j ≤ 0 → row ≡ index_or n (first_at p 0 l)
  down_end j row h k = let z : j ≡ 0 = omega arith in rw z at h.found

  -- r is what was said of the row before j, and next the row that was found with it
  module _ (d : A) (j row next : ℕ) (r : Bool) (h : DownLoop p l n j row) (k : 0 < j) (e : r ≡ p (get_or l (j - 1) d)) where
    in_list : j - 1 < length l
    in_list = omega (arith, h.size, h.place)

    after : (j - 1) + 1 ≡ j
    after = omega arith

    pub down_passed : r ≡ true → next ≡ j - 1 → DownLoop p l n (j - 1) next
    down_passed t q =
        record { size = h.size; place = omega (arith, h.place); found = q ∙ sym (ap (index_or n) (first_here p l d (j - 1) in_list e t)) }

    pub down_failed : r ≡ false → next ≡ row → DownLoop p l n (j - 1) next
    down_failed t q =
        let on : first_at p (j - 1) (drop (j - 1) l) ≡ first_at p j (drop j l) = rw after at (first_on p l d (j - 1) in_list e t) in
        record { size = h.size; place = omega (arith, h.place); found = q ∙ h.found ∙ sym (ap (index_or n) on) }
