-- Marks of the rows of the entry table that may have a put's path: a row without a mark has none of the puts' paths. Assumes nothing.
use mathlib.Core.Path.{◌≡◌, refl, sym, ◌∙◌, ap}
use mathlib.Core.Bool.{Bool, true, false, ◌&&◌}
use mathlib.Core.Logic.{⊎_elim}
use mathlib.Core.List.{List, map}
use Prim.Native.Nat.{ℕ, ◌<◌}
use native.Mathlib.Omega.{arith}
use borrow.Author.Tests.{eqb-true, eqb-false}
use lib.Dec.{eqb}
use lib.ListN.{length, get_or, set, take, length-map, length-set, length-take}
use lib.Seq.{get_or-take, get_or-set_same, get_or-set_other}
use Rattle.lists.specs.Lists.{any_of}
use Rattle.lists.specs.Bytes.{same_bytes}
use Rattle.lists.specs.ByteLaws.{same_symmetric}
use Rattle.lists.specs.BoolLaws.{pass_or_fail, not_both}
use Rattle.lists.specs.TestLaws.{none_at}
use Rattle.lists.specs.RowLaws.{map_row}
use Rattle.text.specs.Text.{text_bytes}
use Rattle.text.specs.TextLaws.{part_bytes}
use Rattle.rules.specs.declared.VolumeNo.{VolumeNo}
use Rattle.rules.specs.declared.Entry.{Entry}
use Rattle.rules.specs.declared.Put.{Put}
use Rattle.rules.specs.Tables.{in_volume, is_entry, is_put}
use Rattle.rules.specs.Commit.{is_replaced}
use Rattle.rows.specs.Blank.{blank_entry, blank_put}

-- a row without a mark has none of the puts' paths
pub record Unmarked (n : VolumeNo) (ps : List Put) (marks : List Bool) (es : List Entry) : Type 0 where
  pub size : length marks ≡ 64
  pub none : (j : ℕ) → j < 64 → get_or marks j false ≡ false → is_replaced n ps (get_or es j blank_entry) ≡ false

module _ (n : VolumeNo) (ps : List Put) (marks : List Bool) (es : List Entry) where
  pub unmarked_start : marks ≡ map (is_replaced n ps) es → length es ≡ 64 → Unmarked n ps marks es
  unmarked_start e q =
      record {
        size = ap length e ∙ length-map es (is_replaced n ps) ∙ q;
        none = λ j k f. sym (map_row (is_replaced n ps) es j blank_entry false (omega arith)) ∙ rw e at f;
      }

  -- a row that takes an entry is marked
  module _ (h : Unmarked n ps marks es) (marks' : List Bool) (es' : List Entry) where
    pub unmarked_set : (r : ℕ) (x : Entry) → marks' ≡ set marks r true → es' ≡ set es r x → Unmarked n ps marks' es'
    unmarked_set r x e q = rw (e, q) (record { size = length-set marks r true ∙ h.size; none = go })
      where
        go : (j : ℕ) → j < 64 → get_or (set marks r true) j false ≡ false → is_replaced n ps (get_or (set es r x) j blank_entry) ≡ false
        go j k f =
            ⊎_elim
            (λ t.
            let same : j ≡ r = eqb-true j r t in
            absurd (not_both (get_or-set_same marks r true false (omega (arith, h.size))) (rw same at f)))
            (λ t.
            let other = eqb-false j r t in
            rw (get_or-set_other es r j x blank_entry other) (h.none j k (rw (get_or-set_other marks r j true false other) at f)))
            (pass_or_fail (eqb j r))

    pub unmarked_kept : marks' ≡ marks → es' ≡ es → Unmarked n ps marks' es'
    unmarked_kept e q = rw (e, q) h

-- an entry that no put replaces has not the path of put i
other_entry : (n : VolumeNo) (ps : List Put) (e : Entry) (i : ℕ) → i < length ps → is_replaced n ps e ≡ false
    → is_entry n (text_bytes (get_or ps i blank_put).path) e ≡ false
unfolding is_replaced is_entry is_put
other_entry n ps e i k f = go (in_volume n e) f
  where
    go : (b : Bool) → (b && any_of (is_put (text_bytes e.path)) ps) ≡ false
        → (b && same_bytes (text_bytes e.path) (text_bytes (get_or ps i blank_put).path)) ≡ false
    go false g = refl
    go true g =
        same_symmetric (text_bytes e.path) (text_bytes (get_or ps i blank_put).path) ∙ none_at (is_put (text_bytes e.path)) ps g i k blank_put

-- a row without a mark has not this path
pub record PathMarks (n : VolumeNo) (path : List ℕ) (marks : List Bool) (es : List Entry) : Type 0 where
  pub size : length marks ≡ 64
  pub none : (j : ℕ) → j < 64 → get_or marks j false ≡ false → is_entry n path (get_or es j blank_entry) ≡ false

-- the path of put i of the first c, m of them: len bytes of it were lent
pub path_marks : (n : VolumeNo) (puts : List Put) (c m i len : ℕ) (marks : List Bool) (es : List Entry) → Unmarked n (take c puts) marks es → length (take c puts) ≡ m
    → i < m → len ≡ length (text_bytes (get_or puts i blank_put).path) → PathMarks n (take len (get_or puts i blank_put).path.bytes) marks es
path_marks n puts c m i len marks es h e k size =
    rw (part_bytes (get_or puts i blank_put).path.bytes (get_or puts i blank_put).path.len len size) (record { size = h.size; none = go })
  where
    there : get_or (take c puts) i blank_put ≡ get_or puts i blank_put
    there = get_or-take c puts i blank_put (omega (arith, length-take c puts))

    go : (j : ℕ) → j < 64 → get_or marks j false ≡ false → is_entry n (text_bytes (get_or puts i blank_put).path) (get_or es j blank_entry) ≡ false
    go j w f = rw there at (other_entry n (take c puts) (get_or es j blank_entry) i (omega arith) (h.none j w f))
