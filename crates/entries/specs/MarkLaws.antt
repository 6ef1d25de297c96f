-- Laws of marks: marks by a test, the loops over marked rows, and relays to which marked entries give their room back. Assumes nothing.
use Rattle.std.specs.Prelude.{◌≡◌, refl, Bool, true, cond, not, ℕ, zero, suc, ◌+◌, ◌<◌, ◌≤◌, length, get_or, set, replicate}
use Rattle.std.proofs.Math.Path.{sym}
use Rattle.std.proofs.Common.{◌∙◌, ap, le_of_suc-le-suc, not-suc-le-zero, add-one, arith, rules}
use Rattle.std.proofs.Math.Bool.{false}
use mathlib.Core.List.{List, [], ◌∷◌, map}
use Rattle.std.proofs.lemmas.Bool.{not-true}
use Rattle.std.proofs.Math.ListN.{drop, drop_of_length-le, get_or-map}
use Rattle.std.proofs.lemmas.List.{get_or-replicate}
use Rattle.std.proofs.Math.Seq.{drop-cons}
use Rattle.lists.specs.Lists.{any_of, keep}
use Rattle.lists.specs.BoolLaws.{or_left, or_right}
use Rattle.lists.specs.RowLaws.{rows_length, map_after}
use Rattle.lists.specs.LoopLaws.{AnyLoop, any_found_all, any_step}
use Rattle.lists.specs.ByteLoopLaws.{FillLoop, fill_start, fill_step_first, fill_step_of, fill_same, fill_whole, fill_size}
use Rattle.rules.specs.declared.VolumeNo.{VolumeNo}
use Rattle.rules.specs.declared.Volume.{Volume}
use Rattle.rules.specs.declared.Put.{Put}
use Rattle.rules.specs.declared.Entry.{Entry}
use Rattle.rules.specs.declared.Relay.{Relay}
use Rattle.rules.specs.Tables.{cleared}
use Rattle.rules.specs.Commit.{is_replaced}
use Rattle.rules.specs.Relays.{lightened}
use Rattle.rows.specs.EntryLaws.{not_in_volume}
use Rattle.rows.specs.Blank.{blank_entry}
use Rattle.placing.specs.GiveLaws.{map_same, after_none, after_first}
use Rattle.entries.specs.Marks.{is_set, marked, cleared_by}

-- marks by a test
pub marked_keep : {A : Type 0} (p : A → Bool) (l : List A) → marked (map p l) l ≡ keep p l
unfolding marked
marked_keep p [] = refl
marked_keep p (x ∷ xs) = rw (marked_keep p xs)

pub cleared_by_lem : {A : Type 0} (p : A → Bool) (z : A) (l : List A) → cleared_by (map p l) z l ≡ cleared p z l
unfolding cleared_by cleared
cleared_by_lem p z [] = refl
cleared_by_lem p z (x ∷ xs) = rw (cleared_by_lem p z xs)

-- a row of the cleared table
length_by : {A : Type 0} (ms : List Bool) (z : A) (l : List A) → length (cleared_by ms z l) ≡ length l
unfolding cleared_by
length_by [] z l = refl
length_by (b ∷ bs) z [] = refl
length_by (b ∷ bs) z (x ∷ xs) = ap suc (length_by bs z xs)

row_by : {A : Type 0} (ms : List Bool) (z : A) (l : List A) (i : ℕ) (d : A) → i < length ms → i < length l
    → get_or (cleared_by ms z l) i d ≡ cond (get_or ms i false) z (get_or l i d)
unfolding cleared_by
row_by [] z l i d h k = absurd (not-suc-le-zero h)
row_by (b ∷ bs) z [] i d h k = absurd (not-suc-le-zero k)
row_by (b ∷ bs) z (x ∷ xs) zero d h k = refl
row_by (b ∷ bs) z (x ∷ xs) (suc i) d h k = row_by bs z xs i d (le_of_suc-le-suc h) (le_of_suc-le-suc k)

-- the loop that clears the marked rows
module _ {A : Type 0} (z : A) (ms : List Bool) (l : List A) (n : ℕ) where
  pub mark_start : length l ≡ n → FillLoop l 0 (cleared_by ms z l) n 0 l
  mark_start e = fill_start l 0 (cleared_by ms z l) n (omega arith) (omega (arith, length_by ms z l))

  module _ (i : ℕ) (out : List A) (h : FillLoop l 0 (cleared_by ms z l) n i out) where
    pub mark_end : (w : A) → z ≡ w → n ≤ i → length l ≡ n → out ≡ cleared_by ms w l
    mark_end w q k e = rw (← q) (fill_whole l (cleared_by ms z l) n i out h k e (length_by ms z l ∙ e))

    -- next is the table after row i, and y what was stored
    module _ (d : A) (next : List A) (b : Bool) (k : i < n) (size : length ms ≡ n) (e : b ≡ get_or ms i false) where
      row : get_or (cleared_by ms z l) i d ≡ cond b z (get_or l i d)
      row = rw e (row_by ms z l i d (omega arith) (omega (arith, h.room)))

      pub mark_cleared : (y : A) → b ≡ true → y ≡ z → next ≡ set out i y → FillLoop l 0 (cleared_by ms z l) n (i + 1) next
      mark_cleared y t f g = rw (g, f) (rw (rw t at row) at (fill_step_first l (cleared_by ms z l) n i out d h k))

      pub mark_kept : b ≡ false → next ≡ out → FillLoop l 0 (cleared_by ms z l) n (i + 1) next
      mark_kept t g = rw g (fill_same l (cleared_by ms z l) n i out d h k (rw t at row))

-- the loop that looks for a mark
module _ (ms : List Bool) (n i : ℕ) where
  pub mark_set : get_or ms i false ≡ true → i < n → AnyLoop is_set ms 0 n i → true ≡ any_of is_set ms
  mark_set e k h = any_found_all false is_set ms n i true h k (sym e) refl

  pub mark_unset : get_or ms i false ≡ false → i < n → AnyLoop is_set ms 0 n i → AnyLoop is_set ms 0 n (i + 1)
  mark_unset e k h = any_step false is_set ms 0 n i false h k (sym e) refl

-- where no mark is set, no row is marked, and nothing is given back
none_marked : {A : Type 0} (ms : List Bool) (l : List A) → any_of is_set ms ≡ false → marked ms l ≡ []
unfolding marked
none_marked [] l e = refl
none_marked (b ∷ bs) [] e = refl
none_marked (b ∷ bs) (x ∷ xs) e = rw (or_left b (any_of is_set bs) e) (none_marked bs xs (or_right b (any_of is_set bs) e))

pub give_none : (vs : List Volume) (es : List Entry) (ms : List Bool) (rs : List Relay) (r : Bool) → not r ≡ true → r ≡ any_of is_set ms
    → rs ≡ map (lightened vs (marked ms es)) rs
give_none vs es ms rs r f e = sym (rw (none_marked ms es (sym e ∙ not-true r f)) (map_same (lightened vs []) rs (after_none vs)))

-- the loop that marks the rows that pass p: b is what the code's test said of row i, and next the marks after it
module _ {A : Type 0} (d : A) (p : A → Bool) (l : List A) (n i : ℕ) (out next : List Bool) where
  pub row_marked : (b : Bool) → next ≡ set out i b → b ≡ p (get_or l i d) → i < n → FillLoop (replicate n false) 0 (map p l) n i out
      → FillLoop (replicate n false) 0 (map p l) n (i + 1) next
  row_marked b g e k h = rw g (fill_step_of p d (replicate n false) l n i out b h k e)

  pub row_unmarked : next ≡ out → p (get_or l i d) ≡ false → i < n → FillLoop (replicate n false) 0 (map p l) n i out
      → FillLoop (replicate n false) 0 (map p l) n (i + 1) next
  row_unmarked g e k h =
      rw g
      (fill_same (replicate n false) (map p l) n i out (p d) h k (get_or-map p l i d ∙ e ∙ sym (get_or-replicate n i false (p d) k)))

-- an entry of another volume is not replaced
pub not_replaced : (v : VolumeNo) (ps : List Put) (e : Entry) → (e.volume.0 ≡ v.0 → ⊥) → is_replaced v ps e ≡ false
unfolding is_replaced
not_replaced v ps e h = rw (not_in_volume v e h)

-- the loop over the entries: what is left to give back, from the relays as they are, is what all marked entries give back
pub record GiveLoop (vs : List Volume) (es : List Entry) (ms : List Bool) (rs₀ rs : List Relay) (i : ℕ) : Type 0 where
  pub size : length es ≡ 64
  pub marks : length ms ≡ 64
  pub rest : map (lightened vs (marked (drop i ms) (drop i es))) rs ≡ map (lightened vs (marked ms es)) rs₀

module _ (vs : List Volume) (es : List Entry) (ms : List Bool) (rs₀ : List Relay) where
  pub give_start : length es ≡ 64 → length ms ≡ 64 → GiveLoop vs es ms rs₀ rs₀ 0
  give_start e f = record { size = e; marks = f; rest = refl }

  module _ (rs : List Relay) (i : ℕ) (h : GiveLoop vs es ms rs₀ rs i) where
    pub give_end : 64 ≤ i → rs ≡ map (lightened vs (marked ms es)) rs₀
    unfolding marked
    give_end k =
        let z : drop i ms ≡ [] = drop_of_length-le ms {i = i} (omega (arith, h.marks)) in
        sym (map_same (lightened vs []) rs (after_none vs)) ∙ rw z at h.rest

    module _ (k : i < 64) (b : Bool) (e : b ≡ get_or ms i false) where
      split : marked (drop i ms) (drop i es) ≡ cond b (get_or es i blank_entry ∷ marked (drop (i + 1) ms) (drop (i + 1) es)) (marked (drop (i + 1) ms) (drop (i + 1) es))
      unfolding marked
      split = rw (add-one i, drop-cons ms i false (omega (arith, h.marks)), drop-cons es i blank_entry (omega (arith, h.size)), e)

      -- got is what the code was given for the entry, and next the relays after it
      pub give_marked : (next got : List Relay) → b ≡ true → next ≡ got → got ≡ map (lightened vs (get_or es i blank_entry ∷ [])) rs → GiveLoop vs es ms rs₀ next (i + 1)
      give_marked next got t g f =
          let x = get_or es i blank_entry in
          let gone = marked (drop (i + 1) ms) (drop (i + 1) es) in
          let q : map (lightened vs gone) next ≡ map (lightened vs (x ∷ gone)) rs =
          ap (map (lightened vs gone)) (g ∙ f) ∙ map_after (lightened vs gone) (lightened vs (x ∷ [])) (lightened vs (x ∷ gone)) rs (λ r. sym (after_first vs x gone r)) in
          let s : marked (drop i ms) (drop i es) ≡ x ∷ gone = split ∙ rw t in
          record { size = h.size; marks = h.marks; rest = q ∙ rw s at h.rest }

      pub give_kept : (next : List Relay) → b ≡ false → next ≡ rs → GiveLoop vs es ms rs₀ next (i + 1)
      give_kept next t f =
          let s : marked (drop i ms) (drop i es) ≡ marked (drop (i + 1) ms) (drop (i + 1) es) = split ∙ rw t in
          rw f (record { size = h.size; marks = h.marks; rest = rw s at h.rest })

pub ruleset gives = (give_marked, give_kept, give_end, give_start, rows_length, rules)

pub ruleset clearing = (mark_cleared, mark_kept, mark_end, fill_size, mark_start, rows_length, rules)
