-- Laws of the rows of a set: each row by its bit, and the set of the rows that pass a test. Assumes nothing.
use Rattle.std.specs.Prelude.{◌≡◌, refl, Bool, true, false, cond, List, [], ◌∷◌, map, ℕ, zero, suc, ◌+◌, ◌*◌, ◌/◌, ◌%◌, ◌^◌, ◌<◌, ◌≤◌, eqb, length, get_or, set, take, drop}
use Rattle.std.proofs.Common.{sym, ap, ◌∙◌, le_of_suc-le-suc, not-suc-le-zero, zero-add, arith, eq-eqb, ne_eqb, length-take-le, drop-cons}
use Rattle.std.proofs.Math.Nat.{pow-succ', div-div-eq-div-mul}
use Rattle.std.proofs.lemmas.List.{get_or_at}
use Rattle.lists.specs.Lists.{bit, bit_set}
use Rattle.lists.specs.SumLaws.{bit_lt}
use Rattle.lists.specs.ByteLoopLaws.{FillLoop, fill_start, fill_same, fill_step_first, fill_whole}
use Rattle.rules.specs.declared.Relay.{Relay}
use Rattle.lent_relays.specs.Lent.{lighter, lighter_in}

pub length_in : (s bytes : ℕ) (rows : List Relay) → length (lighter_in s bytes rows) ≡ length rows
unfolding lighter_in
length_in s bytes [] = refl
length_in s bytes (r ∷ rs) = ap suc (length_in (s / 2) bytes rs)

-- a row, by its bit
pub row_in : (s bytes : ℕ) (rows : List Relay) (i : ℕ) (d : Relay) → i < length rows
    → get_or (lighter_in s bytes rows) i d ≡ cond (eqb (s / 2 ^ i % 2) 1) (lighter (get_or rows i d) bytes) (get_or rows i d)
unfolding lighter_in
row_in s bytes [] i d h = absurd (not-suc-le-zero h)
row_in s bytes (r ∷ rs) zero d h = let w : s / 2 ^ 0 ≡ s = omega arith in rw w
row_in s bytes (r ∷ rs) (suc i) d h =
    let half : s / 2 ^ suc i ≡ s / 2 / 2 ^ i = ap (λ (k : ℕ). s / k) (pow-succ' 2 i) ∙ sym (div-div-eq-div-mul s 2 (2 ^ i)) in
    rw half (row_in (s / 2) bytes rs i d (le_of_suc-le-suc h))

-- the set of the rows that pass a test
lowest : (b : Bool) (m : ℕ) → eqb ((bit b + 2 * m) % 2) 1 ≡ b
lowest true m = eq-eqb ((1 + 2 * m) % 2) 1 (omega arith)
lowest false m = ne_eqb ((0 + 2 * m) % 2) 1 (omega arith)

pub in_those : (p : Relay → Bool) (bytes : ℕ) (rows : List Relay) → lighter_in (bit_set p rows) bytes rows ≡ map (λ r. cond (p r) (lighter r bytes) r) rows
unfolding lighter_in bit_set
in_those p bytes [] = refl
in_those p bytes (r ∷ rs) =
    let half : (bit (p r) + 2 * bit_set p rs) / 2 ≡ bit_set p rs = omega (arith, bit_lt (p r)) in
    rw (lowest (p r) (bit_set p rs), half, in_those p bytes rs)

-- ---- the loop that changes the rows of the set one after the other: after i turns the first i rows are done
module _ (s bytes : ℕ) (rows : List Relay) where
  abbrev pub RowSetLoop : ℕ → ℕ → List Relay → Type 0
  RowSetLoop n i t = FillLoop rows 0 (lighter_in s bytes rows) n i t

  pub set_start : (n : ℕ) → length rows ≡ n → RowSetLoop n 0 rows
  set_start n e = fill_start rows 0 (lighter_in s bytes rows) n (omega arith) (omega (arith, length_in s bytes rows))

  pub set_end : (n i : ℕ) (t : List Relay) → RowSetLoop n i t → n ≤ i → length rows ≡ n → t ≡ lighter_in s bytes rows
  set_end n i t h k e = fill_whole rows (lighter_in s bytes rows) n i t h k e (length_in s bytes rows ∙ e)

  module _ (n i : ℕ) (t : List Relay) (d : Relay) (h : RowSetLoop n i t) (k : i < n) where
    within : i < length rows
    within = omega (arith, h.room)

    -- row i is as it was
    still : get_or t i d ≡ get_or rows i d
    still =
        let l : length (take i (lighter_in s bytes rows)) ≡ i = length-take-le i (lighter_in s bytes rows) (omega (arith, h.source)) in
        rw (h.filled, zero-add i, drop-cons rows i d within) (get_or_at (take i (lighter_in s bytes rows)) (get_or rows i d) (drop (suc i) rows) d i l)

    -- b is what the code said of the row's bit
    pub set_out : (b : Bool) → b ≡ eqb (s / 2 ^ i % 2) 1 → b ≡ false → RowSetLoop n (i + 1) t
    set_out b e f = fill_same rows (lighter_in s bytes rows) n i t d h k (row_in s bytes rows i d within ∙ rw (sym e ∙ f))

    pub set_in : (b : Bool) (u : List Relay) → b ≡ eqb (s / 2 ^ i % 2) 1 → b ≡ true → u ≡ set t i (lighter (get_or t i d) bytes) → RowSetLoop n (i + 1) u
    set_in b u e f q =
        let row : get_or (lighter_in s bytes rows) i d ≡ lighter (get_or t i d) bytes = row_in s bytes rows i d within ∙ rw (sym e ∙ f, still) in
        rw (q, ← row) (fill_step_first rows (lighter_in s bytes rows) n i t d h k)
