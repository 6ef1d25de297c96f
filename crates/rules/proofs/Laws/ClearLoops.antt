-- The loop that makes the rows of a table which pass a test fresh: the first i rows are cleared, and the others are as they came. It is a loop
-- that fills the table with its cleared rows (FillLoop), and stores nothing where a row stays. `search clears` answers each need. Assumes nothing.
use Rattle.std.specs.Prelude.{◌≡◌, Bool, true, false, List, ℕ, ◌+◌, ◌<◌, ◌≤◌, length, get_or, set}
use Rattle.std.proofs.Common.{sym, ◌∙◌, arith, rules}
use Rattle.lists.specs.ByteLoopLaws.{FillLoop, fill_start, fill_step_first, fill_same, fill_whole, fill_size}
use Rattle.lists.specs.RowLaws.{rows_length}
use Rattle.rules.specs.Tables.{cleared}
use Rattle.rules.proofs.Laws.ClearedLaws.{length_cleared, cleared_at}

abbrev pub ClearLoop : {A : Type 0} → (A → Bool) → A → List A → ℕ → ℕ → List A → Type 0
ClearLoop p z l n i out = FillLoop l 0 (cleared p z l) n i out

module _ {A : Type 0} (p : A → Bool) (z : A) (l : List A) (n : ℕ) where
  pub clear_start : length l ≡ n → ClearLoop p z l n 0 l
  clear_start e = fill_start l 0 (cleared p z l) n (omega arith) (omega (arith, length_cleared p z l))

  module _ (i : ℕ) (out : List A) (h : ClearLoop p z l n i out) where
    pub clear_end : n ≤ i → length l ≡ n → out ≡ cleared p z l
    clear_end k e = fill_whole l (cleared p z l) n i out h k e (length_cleared p z l ∙ e)

-- b is what the code's test said of row i
module _ {A : Type 0} (d : A) (p : A → Bool) (z : A) (l : List A) (n i : ℕ) (out : List A) (b : Bool) (h : ClearLoop p z l n i out) (k : i < n)
    (e : b ≡ p (get_or l i d)) where
  pub clear_row : b ≡ true → ClearLoop p z l n (i + 1) (set out i z)
  clear_row t =
      let q : get_or (cleared p z l) i d ≡ z = cleared_at p z l i d (omega (arith, h.room)) ∙ rw (sym e ∙ t) in
      rw q at (fill_step_first l (cleared p z l) n i out d h k)

  pub clear_keep : b ≡ false → ClearLoop p z l n (i + 1) out
  clear_keep t = fill_same l (cleared p z l) n i out d h k (cleared_at p z l i d (omega (arith, h.room)) ∙ rw (sym e ∙ t))

  -- as the code comes out of its branch: next is the table after it, and y what it stored
  pub cleared_row : (next : List A) (y : A) → b ≡ true → y ≡ z → next ≡ set out i y → ClearLoop p z l n (i + 1) next
  cleared_row next y t q f = rw (f, q) (clear_row t)

  pub kept_row_lem : (next : List A) → b ≡ false → next ≡ out → ClearLoop p z l n (i + 1) next
  kept_row_lem next t f = rw f (clear_keep t)

pub ruleset clears = (cleared_row, kept_row_lem, clear_row, clear_keep, clear_end, fill_size, clear_start, rows_length, rules)
