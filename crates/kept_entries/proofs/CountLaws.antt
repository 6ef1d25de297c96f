-- The loop that counts the kept puts of new paths: its invariant at put i of m, and the laws of its start, its step and its end; and the loop over the
-- kept entries that looks for a put's path. Assumes nothing.
use mathlib.Core.Path.{◌≡◌, refl, sym, ◌∙◌, ap}
use mathlib.Core.Bool.{Bool, true, false, not}
use mathlib.Core.List.{List, map}
use Prim.Native.Nat.{ℕ, ◌+◌, ◌<◌, ◌≤◌}
use native.Mathlib.Omega.{arith}
use lib.ListN.{length, drop, get_or, take, length-map, get_or-map}
use Rattle.lists.specs.Lists.{count_if}
use Rattle.lists.specs.LoopLaws.{sizes}
use Rattle.lists.specs.ByteLoopLaws.{length_mapped}
use Rattle.lists.specs.SumLaws.{count_here, count_on, count_end}
use Rattle.rules.specs.declared.VolumeNo.{VolumeNo}
use Rattle.rules.specs.Tables.{is_entry}
use Rattle.rules.specs.Commit.{is_replaced, is_new_path}
use Rattle.kept.specs.declared.KeptEntry.{KeptEntry}
use Rattle.kept.specs.declared.KeptPut.{KeptPut}
use Rattle.kept.specs.Kept.{entry_in, put_in}
use Rattle.kept_entries.specs.KeptEntries.{path_in, entries_in, puts_in}
use Rattle.kept_entries.specs.KeptEntryLaws.{kept_bytes_lem}
use Rattle.kept_entries.proofs.RowLaws.{blank_kept, blank_kept_put}
use Rattle.kept_entries.proofs.FlagLaws.{FlagLoop, flag_start, flag_end, flag_passed, flag_failed, put_row}
use Rattle.kept_entries.proofs.UnmarkedLaws.{Unmarked, PathMarks, unmarked_start, path_marks}

-- what was counted so far, with the count of the rows from i on, is the whole
pub record CountLoop {A : Type 0} (p : A → Bool) (l : List A) (n i sum : ℕ) : Type 0 where
  pub size : length l ≡ n
  pub passed : sum ≤ i
  pub rest : sum + count_if p (drop i l) ≡ count_if p l

module _ {A : Type 0} (p : A → Bool) (l : List A) where
  count_start : (n : ℕ) → length l ≡ n → CountLoop p l n 0 0
  count_start n e = record { size = e; passed = omega arith; rest = omega arith }

  count_all : (n i sum : ℕ) → CountLoop p l n i sum → n ≤ i → sum ≡ count_if p l
  count_all n i sum h k = count_end p l i sum (omega (arith, h.size)) h.rest

-- b is what the code's test said of row i, d stands for a row past the end, and s is the count after it
module _ {A : Type 0} (d : A) (p : A → Bool) (l : List A) (n i sum : ℕ) (b : Bool) (s : ℕ) (h : CountLoop p l n i sum) (k : i < n) (e : b ≡ p (get_or l i d)) where
  count_adds : b ≡ true → s ≡ sum + 1 → CountLoop p l n (i + 1) s
  count_adds t q =
      rw q (record { size = h.size; passed = omega (arith, h.passed); rest = count_here p l d i sum (omega (arith, h.size)) h.rest e t })

  count_skips : b ≡ false → s ≡ sum → CountLoop p l n (i + 1) s
  count_skips t q =
      rw q (record { size = h.size; passed = omega (arith, h.passed); rest = count_on p l d i sum (omega (arith, h.size)) h.rest e t })

-- the loop over the entries of a volume at a path: a row without a mark has not this path
pub record SeekLoop (j : List ℕ) (v : VolumeNo) (path : List ℕ) (marks : List Bool) (rows : List KeptEntry) (k : ℕ) (b : Bool) : Type 0 where
  pub unread : PathMarks j v path marks rows
  pub seen : FlagLoop (is_entry v path) (entries_in j rows) 64 k b

-- the loop over the puts: a row without a mark has none of their paths
pub record NewLoop (j : List ℕ) (v : VolumeNo) (puts : List KeptPut) (count : ℕ) (marks : List Bool) (rows : List KeptEntry) (m i sum : ℕ) : Type 0 where
  pub counted : CountLoop (is_new_path v (entries_in j rows)) (take count (puts_in j puts)) m i sum
  pub unmarked : Unmarked j v (take count (puts_in j puts)) marks rows
  pub table : length rows ≡ 64

module _ (j : List ℕ) (v : VolumeNo) (puts : List KeptPut) (count : ℕ) (marks : List Bool) (rows : List KeptEntry) (m : ℕ) where
  pub new_start : length (take count (puts_in j puts)) ≡ m → marks ≡ map (is_replaced v (take count (puts_in j puts))) (entries_in j rows) → length rows ≡ 64
      → NewLoop j v puts count marks rows m 0 0
  new_start s e q =
      record {
        counted = count_start (is_new_path v (entries_in j rows)) (take count (puts_in j puts)) m s;
        unmarked = unmarked_start j v (take count (puts_in j puts)) marks rows e q;
        table = q;
      }

  module _ (i sum : ℕ) (h : NewLoop j v puts count marks rows m i sum) where
    pub new_end : m ≤ i → sum ≡ count_if (is_new_path v (entries_in j rows)) (take count (puts_in j puts))
    new_end k = count_all (is_new_path v (entries_in j rows)) (take count (puts_in j puts)) m i sum h.counted k

    -- of the path of put i
    pub seek_start : i < m → SeekLoop j v (path_in j (get_or puts i blank_kept_put).at (get_or puts i blank_kept_put).len) marks rows 0 false
    seek_start k =
        record {
          unread = path_marks j v puts count m i marks rows h.unmarked h.counted.size k;
          seen = flag_start (is_entry v (path_in j (get_or puts i blank_kept_put).at (get_or puts i blank_kept_put).len)) (entries_in j rows) 64 (length-map rows (entry_in j) ∙ h.table);
        }

-- next says whether an entry was found up to row k
module _ (j : List ℕ) (v : VolumeNo) (path : List ℕ) (marks : List Bool) (rows : List KeptEntry) (k : ℕ) (b next : Bool) (h : SeekLoop j v path marks rows k b) (w : k < 64) where
  row_said : (r : Bool) → r ≡ is_entry v path (entry_in j (get_or rows k blank_kept)) → r ≡ is_entry v path (get_or (entries_in j rows) k (entry_in j blank_kept))
  row_said r e = e ∙ ap (is_entry v path) (sym (get_or-map (entry_in j) rows k blank_kept))

  pub seek_found : (r : Bool) → next ≡ true → r ≡ true → r ≡ is_entry v path (entry_in j (get_or rows k blank_kept)) → SeekLoop j v path marks rows (k + 1) next
  seek_found r g t e =
      record { unread = h.unread; seen = flag_passed (entry_in j blank_kept) (is_entry v path) (entries_in j rows) 64 k b next r (row_said r e) w h.seen g t }

  pub seek_past : (r : Bool) → next ≡ b → r ≡ false → r ≡ is_entry v path (entry_in j (get_or rows k blank_kept)) → SeekLoop j v path marks rows (k + 1) next
  seek_past r g t e =
      record { unread = h.unread; seen = flag_failed (entry_in j blank_kept) (is_entry v path) (entries_in j rows) 64 k b next r (row_said r e) w h.seen g t }

  pub seek_unread : next ≡ b → get_or marks k false ≡ false → SeekLoop j v path marks rows (k + 1) next
  seek_unread g f = seek_past false g refl (sym (h.unread.none k w f))

  pub seek_size : length marks ≡ 64
  seek_size = h.unread.size

-- the count of the new paths after put i: b says whether an entry has its path
module _ (j : List ℕ) (v : VolumeNo) (rows : List KeptEntry) (puts : List KeptPut) (count m i sum s k : ℕ) (b : Bool) (over : 64 ≤ k)
    (marks : List Bool) (h : SeekLoop j v (path_in j (get_or puts i blank_kept_put).at (get_or puts i blank_kept_put).len) marks rows k b)
    (low : i < m) (c : NewLoop j v puts count marks rows m i sum) where
  new_path : not b ≡ is_new_path v (entries_in j rows) (get_or (take count (puts_in j puts)) i (put_in j blank_kept_put))
  unfolding is_new_path
  new_path =
      rw (
        put_row j puts count m i c.counted.size low,
        kept_bytes_lem j (get_or puts i blank_kept_put).at (get_or puts i blank_kept_put).len,
        ← flag_end _ (entries_in j rows) 64 k b over h.seen,
      )

  pub new_counted : not b ≡ true → s ≡ sum + 1 → NewLoop j v puts count marks rows m (i + 1) s
  new_counted t q =
      record {
        counted = count_adds (put_in j blank_kept_put) (is_new_path v (entries_in j rows)) (take count (puts_in j puts)) m i sum (not b) s c.counted low new_path t q;
        unmarked = c.unmarked;
        table = c.table;
      }

  pub known_skipped : not b ≡ false → s ≡ sum → NewLoop j v puts count marks rows m (i + 1) s
  known_skipped t q =
      record {
        counted = count_skips (put_in j blank_kept_put) (is_new_path v (entries_in j rows)) (take count (puts_in j puts)) m i sum (not b) s c.counted low new_path t q;
        unmarked = c.unmarked;
        table = c.table;
      }

pub ruleset counts = (new_end, new_start, length_mapped, sizes)
