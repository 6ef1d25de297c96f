-- A loop over all rows that keeps whether one of them passed: its invariant at row i of n, and the laws of its start, its step and its end. Of the
-- kept puts: whether one of them is staged at a path. Assumes nothing.
use mathlib.Core.Path.{◌≡◌, refl, sym, ◌∙◌}
use mathlib.Core.Bool.{Bool, true, false, ◌||◌, or-false}
use mathlib.Core.List.{List}
use Prim.Native.Nat.{ℕ, ◌+◌, ◌<◌, ◌≤◌}
use native.Mathlib.Omega.{arith}
use lib.ListN.{length, drop, get_or, take, length-take, get_or-map}
use lib.Seq.{get_or-take}
use Rattle.lists.specs.Lists.{any_of}
use Rattle.lists.specs.Bytes.{same_bytes}
use Rattle.lists.specs.TestLaws.{any_here, any_on, any_end}
use Rattle.lists.specs.AnswerLaws.{part_holds}
use Rattle.lists.specs.LoopLaws.{sizes}
use Rattle.lists.specs.ByteLoopLaws.{length_mapped}
use Rattle.rules.specs.declared.VolumeNo.{VolumeNo}
use Rattle.rules.specs.declared.Put.{Put}
use Rattle.rules.specs.Tables.{in_volume, is_put}
use Rattle.rules.specs.Commit.{is_replaced}
use Rattle.kept.specs.declared.KeptEntry.{KeptEntry}
use Rattle.kept.specs.declared.KeptPut.{KeptPut}
use Rattle.kept.specs.Kept.{entry_in, put_in}
use Rattle.kept_entries.specs.KeptEntries.{path_in, puts_in}
use Rattle.kept_entries.specs.KeptEntryLaws.{kept_bytes_lem}
use Rattle.kept_entries.proofs.RowLaws.{blank_kept_put}

-- a row before i passed, or one from i on does: what all rows come to
pub record FlagLoop {A : Type 0} (p : A → Bool) (l : List A) (n i : ℕ) (b : Bool) : Type 0 where
  pub size : length l ≡ n
  pub rest : (b || any_of p (drop i l)) ≡ any_of p l

module _ {A : Type 0} (p : A → Bool) (l : List A) (n : ℕ) where
  pub flag_start : length l ≡ n → FlagLoop p l n 0 false
  flag_start e = record { size = e; rest = refl }

  module _ (i : ℕ) (b : Bool) where
    pub flag_end : n ≤ i → FlagLoop p l n i b → b ≡ any_of p l
    flag_end k h = sym (or-false b) ∙ rw (any_end p l i (omega (arith, h.size))) at h.rest

-- r is what was said of row i, and next whether a row up to it passed
module _ {A : Type 0} (d : A) (p : A → Bool) (l : List A) (n i : ℕ) (b next r : Bool) (e : r ≡ p (get_or l i d)) (k : i < n) (h : FlagLoop p l n i b) where
  pub flag_passed : next ≡ true → r ≡ true → FlagLoop p l n (i + 1) next
  flag_passed g t =
      rw g (record { size = h.size; rest = part_holds b (any_of p (drop i l)) (any_here p l d i (omega (arith, h.size)) e t) ∙ h.rest })

  pub flag_failed : next ≡ b → r ≡ false → FlagLoop p l n (i + 1) next
  flag_failed g t = rw g (record { size = h.size; rest = rw (any_on p l d i (omega (arith, h.size)) e t) at h.rest })

-- a row of the first c puts that the kept ones stand for
pub put_row : (j : List ℕ) (puts : List KeptPut) (c m i : ℕ) → length (take c (puts_in j puts)) ≡ m → i < m
    → get_or (take c (puts_in j puts)) i (put_in j blank_kept_put) ≡ put_in j (get_or puts i blank_kept_put)
put_row j puts c m i e k =
    let w : i < c = omega (arith, length-take c (puts_in j puts)) in
    get_or-take c (puts_in j puts) i (put_in j blank_kept_put) w ∙ get_or-map (put_in j) puts i blank_kept_put

-- the loop over the kept puts: r is what was said of the paths of put i and of this one, and next whether a put up to it has it
module _ (j path : List ℕ) (puts : List KeptPut) (c m i : ℕ) (b next r : Bool) where
  row_said : r ≡ same_bytes (path_in j (get_or puts i blank_kept_put).at (get_or puts i blank_kept_put).len) path → length (take c (puts_in j puts)) ≡ m → i < m
      → r ≡ is_put path (get_or (take c (puts_in j puts)) i (put_in j blank_kept_put))
  unfolding is_put
  row_said e s k =
      let x = get_or puts i blank_kept_put in
      rw (put_row j puts c m i s k, kept_bytes_lem j x.at x.len) e

  pub put_passed : next ≡ true → r ≡ true → r ≡ same_bytes (path_in j (get_or puts i blank_kept_put).at (get_or puts i blank_kept_put).len) path → i < m
      → FlagLoop (is_put path) (take c (puts_in j puts)) m i b → FlagLoop (is_put path) (take c (puts_in j puts)) m (i + 1) next
  put_passed g t e k h =
      flag_passed (put_in j blank_kept_put) (is_put path) (take c (puts_in j puts)) m i b next r (row_said e h.size k) k h g t

  pub put_failed : next ≡ b → r ≡ false → r ≡ same_bytes (path_in j (get_or puts i blank_kept_put).at (get_or puts i blank_kept_put).len) path → i < m
      → FlagLoop (is_put path) (take c (puts_in j puts)) m i b → FlagLoop (is_put path) (take c (puts_in j puts)) m (i + 1) next
  put_failed g t e k h =
      flag_failed (put_in j blank_kept_put) (is_put path) (take c (puts_in j puts)) m i b next r (row_said e h.size k) k h g t

-- r is what was said of the entry's volume, and b whether a put has its path
module _ (j : List ℕ) (n : VolumeNo) (ps : List Put) (e : KeptEntry) (r : Bool) (q : r ≡ in_volume n (entry_in j e)) where
  pub replaced_told : (b : Bool) (m i : ℕ) → r ≡ true → m ≤ i → FlagLoop (is_put (path_in j e.at e.len)) ps m i b → b ≡ is_replaced n ps (entry_in j e)
  unfolding is_replaced
  replaced_told b m i t k h =
      rw (← q, t, kept_bytes_lem j e.at e.len) (flag_end (is_put (path_in j e.at e.len)) ps m i b k h)

  pub replaced_other : r ≡ false → is_replaced n ps (entry_in j e) ≡ false
  unfolding is_replaced
  replaced_other t = rw (← q, t)

pub ruleset flags = (flag_start, length_mapped, sizes)
