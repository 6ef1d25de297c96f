-- What keys that differ say of two entries, and the loop that stores the keys. Assumes nothing.
use mathlib.Core.Path.{◌≡◌, refl, sym, ◌∙◌, ap}
use mathlib.Core.Bool.{Bool, true, false, not, ◌&&◌}
use mathlib.Core.Logic.{⊎_elim}
use mathlib.Core.List.{List, map}
use Prim.Native.Nat.{ℕ, ◌+◌, ◌<◌, ◌≤◌}
use borrow.Author.Tests.{not-true, ltb-true, ltb-false, lt-ltb, eqb-true, eq-eqb, ne_eqb}
use native.Mathlib.Omega.{arith}
use lib.Dec.{eqb}
use lib.ListN.{length, drop, get_or, set, replicate, length-map}
use Rattle.lists.specs.Bytes.{same_bytes}
use Rattle.lists.specs.ByteLaws.{same_eq}
use Rattle.lists.specs.BoolLaws.{and_left, and_right, and_both, not_both, not_pass, pass_or_fail}
use Rattle.lists.specs.Lists.{any_of, no_clash}
use Rattle.lists.specs.TestLaws.{at_none, none_at, at_all, at_clash, clash_at}
use Rattle.lists.specs.RowLaws.{map_row}
use Rattle.lists.specs.AnswerLaws.{part_fails}
use Rattle.lists.specs.LoopLaws.{AnyLoop, any_found, any_step, any_none, ClashLoop, clash_found, clash_step}
use Rattle.lists.specs.ByteLoopLaws.{FillLoop}
use Rattle.text.specs.Text.{text_bytes}
use Rattle.rules.specs.declared.Entry.{Entry}
use Rattle.rules.specs.declared.Tables.{Tables}
use Rattle.rules.specs.Tables.{given, numbered}
use Rattle.rules.specs.Sound.{sound_entry, sound_entries, same_entry}
use Rattle.rows.specs.Blank.{blank_entry}
use Rattle.rows.specs.PathKeys.{key_of}
use Rattle.rows.specs.PathKeyLaws.{key_given}
use Rattle.sound_rows.specs.FillLaws.{fill_zero, fill_stored}
use Rattle.sound_rows.specs.PathKeys.{path_key}

-- entries of the same volume and path have the same key, and it is not 0
used_key : (e : Entry) → 0 < e.volume.0 → path_key e ≡ key_of e.volume.0 (text_bytes e.path)
unfolding path_key
used_key e h = rw (ne_eqb e.volume.0 0 (omega arith))

same_key : (a b : Entry) → same_entry a b ≡ true → numbered (path_key a) (path_key b) ≡ true
unfolding same_entry
same_key a b h =
    let n = a.volume.0 in
    let m = b.volume.0 in
    let v = and_left (numbered n m) (same_bytes (text_bytes a.path) (text_bytes b.path)) h in
    let used : 0 < n = ltb-true 0 n (and_left (given n) (eqb m n) v) in
    let same : m ≡ n = eqb-true m n (and_right (given n) (eqb m n) v) in
    let text = same_eq (text_bytes a.path) (text_bytes b.path) (and_right (numbered n m) (same_bytes (text_bytes a.path) (text_bytes b.path)) h) in
    let k : key_of m (text_bytes b.path) ≡ key_of n (text_bytes a.path) = rw (same, text) in
    let z = used_key a used in
    let y = used_key b (omega arith) in
    and_both (lt-ltb 0 (path_key a) (omega (arith, z, key_given n (text_bytes a.path)))) (eq-eqb (path_key b) (path_key a) (y ∙ k ∙ sym z))

other_key : (a b : Entry) → false ≡ numbered (path_key a) (path_key b) → same_entry a b ≡ false
other_key a b h = not_pass (same_entry a b) (λ t. not_both (same_key a b t) (sym h))

-- the loops over the paths, at the row i of es, which has the key at i of ks, and at the later row j
module _ (es : List Entry) (i : ℕ) (h : ClashLoop same_entry es 64 i) (k : i < 64) where
  -- row j is compared with row i, and they are the same
  pub path_again : (j : ℕ) (b : Bool) → AnyLoop (same_entry (get_or es i blank_entry)) es (i + 1) 64 j → j < 64
      → b ≡ same_entry (get_or es i blank_entry) (get_or es j blank_entry) → b ≡ true → false ≡ no_clash same_entry es
  path_again j b l w e t =
      clash_found blank_entry same_entry es 64 i true h k (any_found blank_entry (same_entry (get_or es i blank_entry)) es (i + 1) 64 j b l w e t) refl

  -- no later row is the same
  pub path_once : (j : ℕ) → AnyLoop (same_entry (get_or es i blank_entry)) es (i + 1) 64 j → 64 ≤ j → ClashLoop same_entry es 64 (i + 1)
  path_once j l w = clash_step blank_entry same_entry es 64 i false h k (any_none (same_entry (get_or es i blank_entry)) es (i + 1) 64 j l w) refl

  module _ (ks : List ℕ) (e : ks ≡ map path_key es) where
    key_at : (j : ℕ) → j < 64 → get_or ks j 0 ≡ path_key (get_or es j blank_entry)
    key_at j w = ap (λ (l : List ℕ). get_or l j 0) e ∙ map_row path_key es j blank_entry 0 (omega (arith, h.size))

    -- a row of key 0 is the same as none
    pub no_path : get_or ks i 0 ≡ 0 → ClashLoop same_entry es 64 (i + 1)
    no_path z =
        clash_step blank_entry same_entry es 64 i false h k
        (sym (at_none (same_entry (get_or es i blank_entry)) (drop (i + 1) es) blank_entry
        (λ j w.
        other_key (get_or es i blank_entry) (get_or (drop (i + 1) es) j blank_entry)
        (rw (← key_at i k, z)))))
        refl

    -- nor is one of another key
    pub key_differs : (j : ℕ) → AnyLoop (same_entry (get_or es i blank_entry)) es (i + 1) 64 j → j < 64 → (get_or ks j 0 ≡ get_or ks i 0 → ⊥)
        → AnyLoop (same_entry (get_or es i blank_entry)) es (i + 1) 64 (j + 1)
    key_differs j l w n =
        any_step blank_entry (same_entry (get_or es i blank_entry)) es (i + 1) 64 j false l w
        (sym (other_key (get_or es i blank_entry) (get_or es j blank_entry)
        (part_fails (given (path_key (get_or es i blank_entry))) (eqb (path_key (get_or es j blank_entry)) (path_key (get_or es i blank_entry)))
        (rw (key_at j w, key_at i k) at (ne_eqb (get_or ks j 0) (get_or ks i 0) n)))))
        refl

-- no two keys are the same: nor are two entries
pub keys_apart : (es : List Entry) (ks : List ℕ) (b : Bool) → ks ≡ map path_key es → b ≡ no_clash numbered ks → b ≡ true → no_clash same_entry es ≡ true
keys_apart es ks b e h t =
    at_clash same_entry es blank_entry
    (λ i j k l.
    let same = length-map es path_key in
    other_key (get_or es i blank_entry) (get_or es j blank_entry)
    (sym (rw (map_row path_key es i blank_entry 0 (omega arith), map_row path_key es j blank_entry 0 l)
    at (clash_at numbered (map path_key es) (sym (rw e at h) ∙ t) i j k (omega arith) 0))))

pub both_hold : (a b : Bool) → a ≡ true → b ≡ true → true ≡ (a && b)
both_hold a b e f = sym (and_both e f)

-- a turn of the loop that stores the keys: a free row's is there already
free_key : (e : Entry) → e.volume.0 ≡ 0 → path_key e ≡ 0
unfolding path_key
free_key e h = rw h

module _ (es : List Entry) (i : ℕ) (out next : List ℕ) (h : FillLoop (replicate 64 0) 0 (map path_key es) 64 i out) (k : i < 64) where
  pub key_skipped : (get_or es i blank_entry).volume.0 ≡ 0 → next ≡ out → FillLoop (replicate 64 0) 0 (map path_key es) 64 (i + 1) next
  key_skipped e q = fill_zero path_key blank_entry es 64 i out next h k (free_key (get_or es i blank_entry) e) q

  pub key_stored : (x : ℕ) → ((get_or es i blank_entry).volume.0 ≡ 0 → ⊥) → x ≡ key_of (get_or es i blank_entry).volume.0 (text_bytes (get_or es i blank_entry).path) → next ≡ set out i x
      → FillLoop (replicate 64 0) 0 (map path_key es) 64 (i + 1) next
  key_stored x n e q = fill_stored path_key blank_entry es 64 i out next h k x (e ∙ sym (used_key (get_or es i blank_entry) (omega arith))) q

-- where no key is given, every row is free, and the entries are sound
no_key : (e : Entry) → given (path_key e) ≡ false → e.volume.0 ≡ 0
no_key e h =
    ⊎_elim
    (λ w. absurd (omega (arith, ltb-true 0 e.volume.0 w, ltb-false 0 (path_key e) h, used_key e (ltb-true 0 e.volume.0 w), key_given e.volume.0 (text_bytes e.path))))
    (λ w. omega (arith, ltb-false 0 e.volume.0 w))
    (pass_or_fail (given e.volume.0))

free_passes : (t : Tables) (e : Entry) → e.volume.0 ≡ 0 → sound_entry t e ≡ true
unfolding sound_entry
free_passes t e h = rw h

free_differs : (a b : Entry) → a.volume.0 ≡ 0 → same_entry a b ≡ false
unfolding same_entry
free_differs a b h = rw h

pub no_entries : (t : Tables) (ks : List ℕ) (b : Bool) → ks ≡ map path_key t.entries → b ≡ any_of given ks → not b ≡ true → true ≡ sound_entries t
unfolding sound_entries
no_entries t ks b e h w =
    sym (and_both (at_all (sound_entry t) t.entries blank_entry (λ j k. free_passes t _ (free j k)))
    (at_clash same_entry t.entries blank_entry (λ i j k l. free_differs _ _ (free i (omega arith)))))
  where
    free : (j : ℕ) → j < length t.entries → (get_or t.entries j blank_entry).volume.0 ≡ 0
    free j k =
        let none = none_at given ks (sym h ∙ not-true b w) j (omega (arith, ap (λ (l : List ℕ). length l) e, length-map t.entries path_key)) 0 in
        no_key (get_or t.entries j blank_entry) (rw (ap (λ (l : List ℕ). get_or l j 0) e, map_row path_key t.entries j blank_entry 0 k) at none)
