-- The loop that writes the rows of a table, over any type of row and any number of bytes to a row. Assumes nothing.
use mathlib.Core.Path.{◌≡◌, refl, sym, ◌∙◌}
use mathlib.Core.List.{List, [], ◌∷◌, ◌++◌, append_assoc, append-nil, flat_map}
use Prim.Native.Nat.{ℕ, ◌+◌, ◌*◌, ◌<◌, ◌≤◌}
use native.Mathlib.Nat.{mul-le-mul_right, suc-mul}
use native.Mathlib.Numerals.{add-one}
use native.Mathlib.Omega.{arith}
use borrow.Author.Rules.{rules}
use lib.ListN.{length, take, get_or}
use lib.Seq.{take-suc, take-length}
use Rattle.lists.specs.RowLaws.{rows_length}
use Rattle.desk_bytes.specs.Written.{Wrote}
use Rattle.desk_bytes.proofs.OverLaws.{two_parts, part_none, wrote_length}

module _ {A : Type 0} (f : A → List ℕ) where
  -- one row more
  flat_snoc : (l : List A) (x : A) → flat_map f (l ++ (x ∷ [])) ≡ flat_map f l ++ f x
  unfolding flat_map
  flat_snoc [] x = append-nil (f x)
  flat_snoc (y ∷ l) x = rw (flat_snoc l x) (sym (append_assoc (f y) (flat_map f l) (f x)))

  flat_suc : (l : List A) (i : ℕ) (d : A) → i < length l → flat_map f (take (i + 1) l) ≡ flat_map f (take i l) ++ f (get_or l i d)
  flat_suc l i d h = rw (add-one i, take-suc l i d h) (flat_snoc (take i l) (get_or l i d))

-- the first i of the n rows stand in out from `start` on, each as w bytes, and the rest is as it was; `at` is the place after them
pub record RowsLoop {A : Type 0} (f : A → List ℕ) (w : ℕ) (rows : List A) (n start : ℕ) (out₀ : List ℕ) (i at : ℕ) (out : List ℕ) : Type 0 where
  pub count : length rows ≡ n
  pub turn : i ≤ n
  pub here : at ≡ start + i * w
  pub room : start + n * w ≤ length out₀
  pub size : length out ≡ length out₀
  pub wrote : Wrote start (flat_map f (take i rows)) out₀ at out

module _ {A : Type 0} (f : A → List ℕ) (w : ℕ) (rows : List A) (n start : ℕ) (out₀ : List ℕ) where
  pub rows_start : length rows ≡ n → start + n * w ≤ length out₀ → RowsLoop f w rows n start out₀ 0 start out₀
  unfolding flat_map
  rows_start e h =
      record {
        count = e;
        turn = omega arith;
        here = omega arith;
        room = h;
        size = refl;
        wrote = part_none start out₀ (omega arith);
      }

  module _ (i at : ℕ) (out : List ℕ) (h : RowsLoop f w rows n start out₀ i at out) where
    -- room for one row more
    pub row_room : i < n → at + w ≤ length out
    row_room k =
        let e : (i + 1) * w ≤ n * w = mul-le-mul_right w (omega arith) in
        let q : (i + 1) * w ≡ i * w + w = rw (add-one i) (suc-mul i w) in
        omega (arith, h.here, h.room, h.size)

    pub rows_step : (d : A) (r : ℕ) (out' : List ℕ) → i < n → Wrote at (f (get_or rows i d)) out r out' → r ≡ at + w
        → RowsLoop f w rows n start out₀ (i + 1) r out'
    rows_step d r out' k b e =
        let s : length out' ≡ length out = wrote_length at r (f (get_or rows i d)) out out' b in
        let q : (i + 1) * w ≡ i * w + w = rw (add-one i) (suc-mul i w) in
        record {
          count = h.count;
          turn = omega arith;
          here = omega (arith, h.here);
          room = h.room;
          size = s ∙ h.size;
          wrote = rw (flat_suc f rows i d (omega (arith, h.count))) (two_parts start (flat_map f (take i rows)) (f (get_or rows i d)) out₀ at out r out' b h.wrote);
        }

    pub rows_end : n ≤ i → Wrote start (flat_map f rows) out₀ at out
    rows_end k =
        let z : i ≡ n = omega (arith, h.turn) in
        let t : take i rows ≡ rows = rw (z, ← h.count) (take-length rows) in
        rw t at h.wrote

pub ruleset rows_written = (row_room, rows_step, rows_end, rows_start, rows_length, rules)
