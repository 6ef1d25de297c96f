-- Marks of the kept entries that may have a put's path: a row without a mark has none of the puts' paths. Assumes nothing.
use mathlib.Core.Path.{◌≡◌, refl, sym, ◌∙◌, ap}
use mathlib.Core.Bool.{Bool, true, false, ◌&&◌}
use mathlib.Core.Logic.{⊎_elim}
use mathlib.Core.List.{List, map}
use Prim.Native.Nat.{ℕ, ◌<◌}
use native.Mathlib.Omega.{arith}
use borrow.Author.Tests.{eqb-true, eqb-false}
use lib.Dec.{eqb}
use lib.ListN.{length, get_or, set, take, length-map, length-set, get_or-map}
use lib.Seq.{get_or-set_same, get_or-set_other}
use Rattle.lists.specs.Lists.{any_of}
use Rattle.lists.specs.Bytes.{same_bytes}
use Rattle.lists.specs.ByteLaws.{same_symmetric}
use Rattle.lists.specs.BoolLaws.{pass_or_fail, not_both}
use Rattle.lists.specs.TestLaws.{none_at}
use Rattle.lists.specs.RowLaws.{map_row}
use Rattle.text.specs.Text.{text_bytes}
use Rattle.rules.specs.declared.VolumeNo.{VolumeNo}
use Rattle.rules.specs.declared.Entry.{Entry}
use Rattle.rules.specs.declared.Put.{Put}
use Rattle.rules.specs.Tables.{in_volume, is_entry, is_put}
use Rattle.rules.specs.Commit.{is_replaced}
use Rattle.kept.specs.declared.KeptEntry.{KeptEntry}
use Rattle.kept.specs.declared.KeptPut.{KeptPut}
use Rattle.kept.specs.Kept.{entry_in, put_in}
use Rattle.kept_entries.specs.KeptEntries.{path_in, entries_in, puts_in}
use Rattle.kept_entries.specs.KeptEntryLaws.{kept_bytes_lem}
use Rattle.kept_entries.proofs.RowLaws.{blank_kept, blank_kept_put}
use Rattle.kept_entries.proofs.FlagLaws.{put_row}

-- a row without a mark has none of the puts' paths
pub record Unmarked (j : List ℕ) (n : VolumeNo) (ps : List Put) (marks : List Bool) (rows : List KeptEntry) : Type 0 where
  pub size : length marks ≡ 64
  pub none : (k : ℕ) → k < 64 → get_or marks k false ≡ false → is_replaced n ps (entry_in j (get_or rows k blank_kept)) ≡ false

module _ (j : List ℕ) (n : VolumeNo) (ps : List Put) (marks : List Bool) (rows : List KeptEntry) where
  pub unmarked_start : marks ≡ map (is_replaced n ps) (entries_in j rows) → length rows ≡ 64 → Unmarked j n ps marks rows
  unmarked_start e q =
      let s : length (entries_in j rows) ≡ 64 = length-map rows (entry_in j) ∙ q in
      record {
        size = ap length e ∙ length-map (entries_in j rows) (is_replaced n ps) ∙ s;
        none = λ k w f.
            ap (is_replaced n ps) (sym (get_or-map (entry_in j) rows k blank_kept))
            ∙ sym (map_row (is_replaced n ps) (entries_in j rows) k (entry_in j blank_kept) false (omega arith))
            ∙ rw e at f;
      }

  -- a row that takes an entry is marked
  module _ (h : Unmarked j n ps marks rows) (marks' : List Bool) (rows' : List KeptEntry) where
    pub unmarked_set : (r : ℕ) (x : KeptEntry) → marks' ≡ set marks r true → rows' ≡ set rows r x → Unmarked j n ps marks' rows'
    unmarked_set r x e q = rw (e, q) (record { size = length-set marks r true ∙ h.size; none = go })
      where
        go : (k : ℕ) → k < 64 → get_or (set marks r true) k false ≡ false → is_replaced n ps (entry_in j (get_or (set rows r x) k blank_kept)) ≡ false
        go k w f =
            ⊎_elim
            (λ t.
            let same : k ≡ r = eqb-true k r t in
            absurd (not_both (get_or-set_same marks r true false (omega (arith, h.size))) (rw same at f)))
            (λ t.
            let other = eqb-false k r t in
            rw (get_or-set_other rows r k x blank_kept other) (h.none k w (rw (get_or-set_other marks r k true false other) at f)))
            (pass_or_fail (eqb k r))

    pub unmarked_kept : marks' ≡ marks → rows' ≡ rows → Unmarked j n ps marks' rows'
    unmarked_kept e q = rw (e, q) h

-- an entry that no put replaces has not the path of put i
other_entry : (n : VolumeNo) (ps : List Put) (e : Entry) (i : ℕ) (d : Put) → i < length ps → is_replaced n ps e ≡ false
    → is_entry n (text_bytes (get_or ps i d).path) e ≡ false
unfolding is_replaced is_entry is_put
other_entry n ps e i d k f = go (in_volume n e) f
  where
    go : (b : Bool) → (b && any_of (is_put (text_bytes e.path)) ps) ≡ false → (b && same_bytes (text_bytes e.path) (text_bytes (get_or ps i d).path)) ≡ false
    go false g = refl
    go true g = same_symmetric (text_bytes e.path) (text_bytes (get_or ps i d).path) ∙ none_at (is_put (text_bytes e.path)) ps g i k d

-- a row without a mark has not this path
pub record PathMarks (j : List ℕ) (n : VolumeNo) (path : List ℕ) (marks : List Bool) (rows : List KeptEntry) : Type 0 where
  pub size : length marks ≡ 64
  pub none : (k : ℕ) → k < 64 → get_or marks k false ≡ false → is_entry n path (entry_in j (get_or rows k blank_kept)) ≡ false

-- the path of put i of the first c, m of them
pub path_marks : (j : List ℕ) (n : VolumeNo) (puts : List KeptPut) (c m i : ℕ) (marks : List Bool) (rows : List KeptEntry)
    → Unmarked j n (take c (puts_in j puts)) marks rows → length (take c (puts_in j puts)) ≡ m → i < m
    → PathMarks j n (path_in j (get_or puts i blank_kept_put).at (get_or puts i blank_kept_put).len) marks rows
path_marks j n puts c m i marks rows h e k = record { size = h.size; none = go }
  where
    path : text_bytes (get_or (take c (puts_in j puts)) i (put_in j blank_kept_put)).path ≡ path_in j (get_or puts i blank_kept_put).at (get_or puts i blank_kept_put).len
    path = ap (λ (p : Put). text_bytes p.path) (put_row j puts c m i e k) ∙ kept_bytes_lem j (get_or puts i blank_kept_put).at (get_or puts i blank_kept_put).len

    go : (r : ℕ) → r < 64 → get_or marks r false ≡ false
        → is_entry n (path_in j (get_or puts i blank_kept_put).at (get_or puts i blank_kept_put).len) (entry_in j (get_or rows r blank_kept)) ≡ false
    go r w f =
        rw path at
        (other_entry n (take c (puts_in j puts)) (entry_in j (get_or rows r blank_kept)) i (put_in j blank_kept_put) (omega (arith, e)) (h.none r w f))
