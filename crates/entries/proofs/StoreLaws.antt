-- Puts stored one after another: the row that a put is stored in, the loop over the rows that finds it, and the loop over the puts. Assumes nothing.
use mathlib.Core.Path.{◌≡◌, refl, sym, ◌∙◌, ap}
use mathlib.Core.Bool.{Bool, true, false, cond}
use mathlib.Core.Logic.{⊎_elim}
use mathlib.Core.List.{List, []}
use Prim.Native.Nat.{ℕ, ◌+◌, ◌-◌, ◌<◌, ◌≤◌}
use native.Mathlib.Numerals.{add-one}
use native.Mathlib.Omega.{arith}
use borrow.Author.Tests.{eqb-true, eqb-false}
use lib.Dec.{eqb}
use lib.ListN.{length, drop, get_or, set, take, length-set, length-take, drop_of_length-le}
use lib.Seq.{drop-cons, get_or-take, set_out}
use Rattle.lists.specs.Lists.{Hit, miss, hit, find, first_at}
use Rattle.lists.specs.BoolLaws.{pass_or_fail}
use Rattle.lists.specs.LoopLaws.{sizes}
use Rattle.lists.specs.SearchLaws.{index_of, first_index, found_below}
use Rattle.text.specs.Text.{text_bytes}
use Rattle.text.specs.TextLaws.{part_bytes}
use Rattle.rules.specs.declared.VolumeNo.{VolumeNo}
use Rattle.rules.specs.declared.Placement.{Placement}
use Rattle.rules.specs.declared.Entry.{Entry}
use Rattle.rules.specs.declared.Put.{Put}
use Rattle.rules.specs.Tables.{free_entry, is_entry}
use Rattle.rules.specs.Commit.{entry_for, store_new, store_at, store_all}
use Rattle.rows.specs.Blank.{blank_entry, blank_put}
use Rattle.entries.proofs.DownLaws.{index_or, DownLoop, down_start, down_end, down_passed, down_failed}
use Rattle.entries.proofs.UnmarkedLaws.{Unmarked, PathMarks, unmarked_start, path_marks}

-- an entry stored: row is the row of its path, free the lowest free row, 64 where there is none
module _ (es : List Entry) (size : length es ≡ 64) (e : Entry) where
  store_new_lem : (free : ℕ) (h : Hit Entry) → free ≡ index_or 64 (index_of h) → store_new es e h ≡ set es free e
  unfolding store_new
  store_new_lem free miss q = sym (set_out es free e (omega (arith, q)))
  store_new_lem free (hit i x) q = sym (ap (λ (k : ℕ). set es k e) q)

  module _ (p : Entry → Bool) (row : ℕ) (q : row ≡ index_or 64 (first_at p 0 es)) where
    found : row ≡ index_or 64 (index_of (find p es))
    found = rw (first_index p 0 es) at q

    stored_same : (row ≡ 64 → ⊥) → store_at es e (find p es) ≡ set es row e
    unfolding store_at
    stored_same other = go (find p es) found
      where
        go : (h : Hit Entry) → row ≡ index_or 64 (index_of h) → store_at es e h ≡ set es row e
        go miss z = absurd (other z)
        go (hit i x) z = sym (ap (λ (k : ℕ). set es k e) z)

    stored_free : row ≡ 64 → (free : ℕ) → free ≡ index_or 64 (first_at free_entry 0 es) → store_at es e (find p es) ≡ set es free e
    unfolding store_at
    stored_free none free f = go (find p es) refl found
      where
        go : (h : Hit Entry) → find p es ≡ h → row ≡ index_or 64 (index_of h) → store_at es e h ≡ set es free e
        go miss w z = store_new_lem free (find free_entry es) (rw (first_index free_entry 0 es) at f)
        go (hit i x) w z = absurd (omega (arith, found_below p es i x w, size, none, z))

-- the row that takes a put: none does where it is past the end
pub record RowFor (n : VolumeNo) (p : Put) (es : List Entry) (row : ℕ) : Type 0 where
  pub stored : (e : Entry) → store_at es e (find (is_entry n (text_bytes p.path)) es) ≡ set es row e

-- a placement past the end
abbrev blank_placement : Placement
blank_placement = record { relays = []; len = 0 }

-- the loop over the first k puts, m of them: what is left to store, from the entries as they are, leaves what all of them leave
pub record StoreLoop (n : VolumeNo) (ps : List Put) (places : List Placement) (es₀ : List Entry) (m i : ℕ) (es : List Entry) : Type 0 where
  pub puts : length ps ≡ m
  pub placements : length places ≡ m
  pub size : length es ≡ 64
  pub rest : store_all n ps places es₀ ≡ store_all n (drop i ps) (drop i places) es

module _ (n : VolumeNo) (ps : List Put) (places : List Placement) (es₀ : List Entry) (m : ℕ) where
  pub store_start : length ps ≡ m → length places ≡ m → length es₀ ≡ 64 → StoreLoop n ps places es₀ m 0 es₀
  store_start a b c = record { puts = a; placements = b; size = c; rest = refl }

  module _ (i : ℕ) (es : List Entry) (h : StoreLoop n ps places es₀ m i es) where
    pub store_end : m ≤ i → es ≡ store_all n ps places es₀
    unfolding store_all
    store_end k = sym (h.rest ∙ rw (drop_of_length-le ps {i = i} (omega (arith, h.puts))))

    pub store_size : length es ≡ 64
    store_size = h.size

    -- p is put i, with its placement q
    step : (p : Put) (q : Placement) → i < m → p ≡ get_or ps i blank_put → q ≡ get_or places i blank_placement
        → store_all n ps places es₀
        ≡ store_all n (drop (i + 1) ps) (drop (i + 1) places) (store_at es (entry_for n p q) (find (is_entry n (text_bytes p.path)) es))
    unfolding store_all
    step p q k a b =
        h.rest
        ∙ rw (
          drop-cons ps i blank_put (omega (arith, h.puts)),
          drop-cons places i blank_placement (omega (arith, h.placements)),
          ← a,
          ← b,
          ← add-one i,
        )

-- row is the row that takes put i, and next the entries after it
module _ (n : VolumeNo) (puts : List Put) (places : List Placement) (es₀ : List Entry) (k m i : ℕ) (es : List Entry)
    (h : StoreLoop n (take k puts) (take k places) es₀ m i es) (w : i < m) (row : ℕ) (takes : RowFor n (get_or puts i blank_put) es row) (next : List Entry) where
  within : i < k
  within = omega (arith, length-take k puts, h.puts)

  stored : store_all n (take k puts) (take k places) es₀
      ≡ store_all n (drop (i + 1) (take k puts)) (drop (i + 1) (take k places)) (set es row (entry_for n (get_or puts i blank_put) (get_or places i blank_placement)))
  stored =
      let a = get_or-take k puts i blank_put within in
      let b = get_or-take k places i blank_placement within in
      rw (takes.stored _) at (step n (take k puts) (take k places) es₀ m i es h _ _ w (sym a) (sym b))

  pub store_none : next ≡ es → 64 ≤ row → StoreLoop n (take k puts) (take k places) es₀ m (i + 1) next
  store_none z none =
      let same = set_out es row (entry_for n (get_or puts i blank_put) (get_or places i blank_placement)) (omega (arith, h.size)) in
      rw z (record { puts = h.puts; placements = h.placements; size = h.size; rest = rw same at stored })

  pub store_put : (x : Entry) → next ≡ set es row x → x ≡ entry_for n (get_or puts i blank_put) (get_or places i blank_placement)
      → StoreLoop n (take k puts) (take k places) es₀ m (i + 1) next
  store_put x z made =
      rw (z, made)
      (record { puts = h.puts; placements = h.placements; size = length-set es row _ ∙ h.size; rest = stored })

-- the loop with the marks of the rows that may have a put's path
pub record PutLoop (n : VolumeNo) (ps : List Put) (places : List Placement) (es₀ : List Entry) (m i : ℕ) (marks : List Bool) (es : List Entry) : Type 0 where
  pub left : StoreLoop n ps places es₀ m i es
  pub unmarked : Unmarked n ps marks es

-- the loop over the rows for one put, at row j
pub record RowLoop (n : VolumeNo) (path : List ℕ) (marks : List Bool) (es : List Entry) (j row free : ℕ) : Type 0 where
  pub unread : PathMarks n path marks es
  pub same : DownLoop (is_entry n path) es 64 j row
  pub lowest : DownLoop free_entry es 64 j free

module _ (n : VolumeNo) (path : List ℕ) (marks : List Bool) (es : List Entry) (j row free : ℕ) (h : RowLoop n path marks es j row free) where
  pub row_turn : (row' free' : ℕ) → DownLoop (is_entry n path) es 64 (j - 1) row' → DownLoop free_entry es 64 (j - 1) free'
      → RowLoop n path marks es (j - 1) row' free'
  row_turn row' free' a b = record { unread = h.unread; same = a; lowest = b }

  pub rows_size : length es ≡ 64
  rows_size = h.same.size

  pub marks_size : length marks ≡ 64
  marks_size = h.unread.size

  -- next is the row that was found with the row before j
  module _ (next : ℕ) (k : 0 < j) where
    pub same_here : (r : Bool) → r ≡ true → next ≡ j - 1 → r ≡ is_entry n path (get_or es (j - 1) blank_entry) → DownLoop (is_entry n path) es 64 (j - 1) next
    same_here r t q e = down_passed (is_entry n path) es 64 blank_entry j row next r h.same k e t q

    pub same_past : (r : Bool) → r ≡ false → next ≡ row → r ≡ is_entry n path (get_or es (j - 1) blank_entry) → DownLoop (is_entry n path) es 64 (j - 1) next
    same_past r t q e = down_failed (is_entry n path) es 64 blank_entry j row next r h.same k e t q

    pub same_unread : get_or marks (j - 1) false ≡ false → next ≡ row → DownLoop (is_entry n path) es 64 (j - 1) next
    same_unread f q =
        let e = h.unread.none (j - 1) (omega (arith, h.same.place)) f in
        down_failed (is_entry n path) es 64 blank_entry j row next false h.same k (sym e) refl q

    pub free_turn : next ≡ cond (eqb (get_or es (j - 1) blank_entry).volume.0 0) (j - 1) free → DownLoop free_entry es 64 (j - 1) next
    free_turn q =
        ⊎_elim
        (λ t. down_passed free_entry es 64 blank_entry j free next (free_entry (get_or es (j - 1) blank_entry)) h.lowest k refl t (rw t at q))
        (λ t. down_failed free_entry es 64 blank_entry j free next (free_entry (get_or es (j - 1) blank_entry)) h.lowest k refl t (rw t at q))
        (pass_or_fail (free_entry (get_or es (j - 1) blank_entry)))

-- of put i, of whose path len bytes were lent
module _ (n : VolumeNo) (puts : List Put) (es : List Entry) (marks : List Bool) (i len : ℕ) (size : len ≡ length (text_bytes (get_or puts i blank_put).path)) where
  pub row_start : (c m : ℕ) (places : List Placement) (es₀ : List Entry) → PutLoop n (take c puts) (take c places) es₀ m i marks es → i < m
      → RowLoop n (take len (get_or puts i blank_put).path.bytes) marks es 64 64 64
  row_start c m places es₀ h k =
      let path = take len (get_or puts i blank_put).path.bytes in
      record {
        unread = path_marks n puts c m i len marks es h.unmarked h.left.puts k size;
        same = down_start (is_entry n path) es 64 h.left.size;
        lowest = down_start free_entry es 64 h.left.size;
      }

  -- next is the row that takes the put
  module _ (j row free next : ℕ) (h : RowLoop n (take len (get_or puts i blank_put).path.bytes) marks es j row free) (k : j ≤ 0) where
    at_path : row ≡ index_or 64 (first_at (is_entry n (text_bytes (get_or puts i blank_put).path)) 0 es)
    at_path = rw (part_bytes (get_or puts i blank_put).path.bytes (get_or puts i blank_put).path.len len size) at (down_end (is_entry n (take len (get_or puts i blank_put).path.bytes)) es 64 j row h.same k)

    pub takes_row : next ≡ cond (eqb row 64) free row → RowFor n (get_or puts i blank_put) es next
    takes_row q =
        let path = is_entry n (text_bytes (get_or puts i blank_put).path) in
        record {
          stored = λ x.
              ⊎_elim
              (λ t.
              rw (rw t at q)
              (stored_free es h.same.size x path row at_path (eqb-true row 64 t) free (down_end free_entry es 64 j free h.lowest k)))
              (λ t. rw (rw t at q) (stored_same es h.same.size x path row at_path (eqb-false row 64 t)))
              (pass_or_fail (eqb row 64));
        }

pub ruleset stores = (store_end, store_size, store_start, unmarked_start, sizes)

-- the loop over the rows
pub ruleset turns = (row_turn, same_here, same_past, same_unread, free_turn)
