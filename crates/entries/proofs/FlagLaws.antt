-- A loop over all rows that keeps whether one of them passed: its invariant at row i of n, and the laws of its start, its step and its end. For a
-- put, whether its path is new. Assumes nothing.
use mathlib.Core.Path.{◌≡◌, refl, sym, ◌∙◌}
use mathlib.Core.Bool.{Bool, true, false, not, ◌||◌, or-false}
use mathlib.Core.List.{List, map}
use Prim.Native.Nat.{ℕ, ◌+◌, ◌<◌, ◌≤◌}
use native.Mathlib.Omega.{arith}
use lib.ListN.{length, drop, get_or, take}
use Rattle.lists.specs.Lists.{any_of}
use Rattle.lists.specs.TestLaws.{any_here, any_on, any_end}
use Rattle.lists.specs.AnswerLaws.{part_holds}
use Rattle.text.specs.Text.{text_bytes}
use Rattle.text.specs.TextLaws.{part_bytes}
use Rattle.rules.specs.declared.VolumeNo.{VolumeNo}
use Rattle.rules.specs.declared.Entry.{Entry}
use Rattle.rules.specs.declared.Put.{Put}
use Rattle.rules.specs.Tables.{is_entry}
use Rattle.rules.specs.Commit.{is_replaced, is_new_path}
use Rattle.rows.specs.Blank.{blank_entry, blank_put}
use Rattle.entries.proofs.CountLaws.{CountLoop, count_adds_part, count_skips_part}
use Rattle.entries.proofs.UnmarkedLaws.{PathMarks, unmarked_start, path_marks}

-- a row before i passed, or one from i on does: what all rows come to
pub record FlagLoop {A : Type 0} (p : A → Bool) (l : List A) (n i : ℕ) (b : Bool) : Type 0 where
  pub size : length l ≡ n
  pub rest : (b || any_of p (drop i l)) ≡ any_of p l

module _ {A : Type 0} (p : A → Bool) (l : List A) (n : ℕ) where
  pub flag_start : length l ≡ n → FlagLoop p l n 0 false
  flag_start e = record { size = e; rest = refl }

  module _ (i : ℕ) (b : Bool) where
    pub flag_end : n ≤ i → FlagLoop p l n i b → b ≡ any_of p l
    flag_end k h = sym (or-false b) ∙ rw (any_end p l i (omega (arith, h.size))) at h.rest

-- r is what was said of row i, and next whether a row up to it passed
module _ {A : Type 0} (d : A) (p : A → Bool) (l : List A) (n i : ℕ) (b next r : Bool) (e : r ≡ p (get_or l i d)) (k : i < n) (h : FlagLoop p l n i b) where
  pub flag_passed : next ≡ true → r ≡ true → FlagLoop p l n (i + 1) next
  flag_passed g t =
      rw g (record { size = h.size; rest = part_holds b (any_of p (drop i l)) (any_here p l d i (omega (arith, h.size)) e t) ∙ h.rest })

  pub flag_failed : next ≡ b → r ≡ false → FlagLoop p l n (i + 1) next
  flag_failed g t = rw g (record { size = h.size; rest = rw (any_on p l d i (omega (arith, h.size)) e t) at h.rest })

-- the loop over the entries of a volume at a path: a row without a mark has not this path
pub record SeekLoop (v : VolumeNo) (path : List ℕ) (marks : List Bool) (es : List Entry) (j : ℕ) (b : Bool) : Type 0 where
  pub unread : PathMarks v path marks es
  pub seen : FlagLoop (is_entry v path) es 64 j b

-- of the path of put i, of which len bytes were lent
pub seek_start : (v : VolumeNo) (es : List Entry) (puts : List Put) (count m i sum len : ℕ) (marks : List Bool) → CountLoop (is_new_path v es) (take count puts) m i sum
    → i < m → marks ≡ map (is_replaced v (take count puts)) es → length es ≡ 64 → len ≡ length (text_bytes (get_or puts i blank_put).path)
    → SeekLoop v (take len (get_or puts i blank_put).path.bytes) marks es 0 false
seek_start v es puts count m i sum len marks c k e q size =
    record {
      unread = path_marks v puts count m i len marks es (unmarked_start v (take count puts) marks es e q) c.size k size;
      seen = flag_start (is_entry v (take len (get_or puts i blank_put).path.bytes)) es 64 q;
    }

-- next says whether an entry was found up to row j
module _ (v : VolumeNo) (path : List ℕ) (marks : List Bool) (es : List Entry) (j : ℕ) (b next : Bool) (h : SeekLoop v path marks es j b) (k : j < 64) where
  pub seek_found : (r : Bool) → next ≡ true → r ≡ true → r ≡ is_entry v path (get_or es j blank_entry) → SeekLoop v path marks es (j + 1) next
  seek_found r g t e = record { unread = h.unread; seen = flag_passed blank_entry (is_entry v path) es 64 j b next r e k h.seen g t }

  pub seek_past : (r : Bool) → next ≡ b → r ≡ false → r ≡ is_entry v path (get_or es j blank_entry) → SeekLoop v path marks es (j + 1) next
  seek_past r g t e = record { unread = h.unread; seen = flag_failed blank_entry (is_entry v path) es 64 j b next r e k h.seen g t }

  pub seek_unread : next ≡ b → get_or marks j false ≡ false → SeekLoop v path marks es (j + 1) next
  seek_unread g f = seek_past false g refl (sym (h.unread.none j k f))

  pub seek_size : length marks ≡ 64
  seek_size = h.unread.size

-- the count of the new paths after put i, of whose path len bytes were lent: b says whether an entry has it
module _ (v : VolumeNo) (es : List Entry) (puts : List Put) (count m i sum s len j : ℕ) (b : Bool)
    (size : len ≡ length (text_bytes (get_or puts i blank_put).path)) (k : 64 ≤ j)
    (marks : List Bool) (h : SeekLoop v (take len (get_or puts i blank_put).path.bytes) marks es j b) where
  new_path : not b ≡ is_new_path v es (get_or puts i blank_put)
  unfolding is_new_path
  new_path = rw (← part_bytes (get_or puts i blank_put).path.bytes (get_or puts i blank_put).path.len len size, ← flag_end _ es 64 j b k h.seen)

  module _ (low : i < m) (c : CountLoop (is_new_path v es) (take count puts) m i sum) where
    pub new_counted : not b ≡ true → s ≡ sum + 1 → CountLoop (is_new_path v es) (take count puts) m (i + 1) s
    new_counted t q = count_adds_part blank_put (is_new_path v es) puts count m i sum (not b) s c low new_path t q

    pub known_skipped : not b ≡ false → s ≡ sum → CountLoop (is_new_path v es) (take count puts) m (i + 1) s
    known_skipped t q = count_skips_part blank_put (is_new_path v es) puts count m i sum (not b) s c low new_path t q
