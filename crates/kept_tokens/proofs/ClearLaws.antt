-- The loop that clears the rows of a set in a table of kept tokens. Assumes nothing.
use mathlib.Core.Path.{◌≡◌, ◌∙◌}
use mathlib.Core.Bool.{Bool, true, false, cond}
use mathlib.Core.List.{List}
use Prim.Native.Nat.{ℕ, ◌+◌, ◌/◌, ◌%◌, ◌^◌, ◌<◌, ◌≤◌}
use native.Mathlib.Omega.{arith}
use borrow.Author.Rules.{rules}
use lib.Dec.{eqb}
use lib.ListN.{length, get_or, set}
use Rattle.lists.specs.ByteLoopLaws.{FillLoop, fill_start, fill_same, fill_step_first, fill_whole}
use Rattle.lists.specs.RowLaws.{rows_length}
use Rattle.tokens.specs.Dropped.{cleared_in}
use Rattle.tokens.specs.DroppedLaws.{length_in, row_by_bit}
use Rattle.kept.specs.declared.KeptToken.{KeptToken}
use Rattle.kept.specs.Kept.{fresh_kept_token}
use Rattle.kept_tokens.specs.KeptTokens.{blank_kept}

-- the rows of the set s: the first i rows are done
pub record ClearSetLoop (s : ℕ) (rows : List KeptToken) (i : ℕ) (out : List KeptToken) : Type 0 where
  pub done : FillLoop rows 0 (cleared_in s fresh_kept_token rows) 32 i out

module _ (s : ℕ) (rows : List KeptToken) where
  pub clear_start : length rows ≡ 32 → ClearSetLoop s rows 0 rows
  clear_start e = record { done = fill_start rows 0 (cleared_in s fresh_kept_token rows) 32 (omega arith) (omega (arith, length_in fresh_kept_token s rows)) }

  module _ (i : ℕ) (out : List KeptToken) (h : ClearSetLoop s rows i out) where
    pub clear_end : 32 ≤ i → length rows ≡ 32 → out ≡ cleared_in s fresh_kept_token rows
    clear_end k e = fill_whole rows (cleared_in s fresh_kept_token rows) 32 i out h.done k e (length_in fresh_kept_token s rows ∙ e)

    pub clear_size : length out ≡ length rows
    clear_size = h.done.size

    -- b is the bit of row i, and next the table after it
    module _ (b : Bool) (next : List KeptToken) (k : i < 32) (e : b ≡ eqb (s / 2 ^ i % 2) 1) where
      row : get_or (cleared_in s fresh_kept_token rows) i blank_kept ≡ cond b fresh_kept_token (get_or rows i blank_kept)
      row = rw e (row_by_bit fresh_kept_token s rows i blank_kept (omega (arith, h.done.room)))

      pub clear_row : b ≡ true → (y : KeptToken) → next ≡ set out i y → y ≡ fresh_kept_token → ClearSetLoop s rows (i + 1) next
      clear_row t y f q =
          let z : get_or (cleared_in s fresh_kept_token rows) i blank_kept ≡ fresh_kept_token = row ∙ rw t in
          let g = fill_step_first rows (cleared_in s fresh_kept_token rows) 32 i out blank_kept h.done k in
          record { done = rw (f, q) (rw z at g) }

      pub keep_row : b ≡ false → next ≡ out → ClearSetLoop s rows (i + 1) next
      keep_row t f = record { done = rw f (fill_same rows (cleared_in s fresh_kept_token rows) 32 i out blank_kept h.done k (row ∙ rw t)) }

pub ruleset clears = (clear_row, keep_row, clear_end, clear_size, clear_start, rows_length, rules)
