-- Kept puts stored one after another: the row that a put is stored in, the loop over the rows that finds it, and the loop over the puts. Assumes
-- nothing.
use mathlib.Core.Path.{◌≡◌, refl, sym, ◌∙◌, ap}
use mathlib.Core.Bool.{Bool, true, false, cond}
use mathlib.Core.Logic.{⊎_elim}
use mathlib.Core.List.{List, [], ◌∷◌, map}
use Prim.Native.Nat.{ℕ, zero, suc, ◌+◌, ◌-◌, ◌<◌, ◌≤◌}
use native.Mathlib.Numerals.{add-one}
use native.Mathlib.Omega.{arith}
use borrow.Author.Tests.{eqb-true, eqb-false}
use lib.Dec.{eqb}
use lib.ListN.{length, drop, get_or, set, take, length-set, length-take, length-map, drop_of_length-le, get_or-map}
use lib.Seq.{drop-cons, get_or-take, set_out}
use Rattle.lists.specs.Lists.{Hit, miss, hit, find, first_at}
use Rattle.lists.specs.BoolLaws.{pass_or_fail}
use Rattle.lists.specs.LoopLaws.{sizes}
use Rattle.lists.specs.ByteLoopLaws.{length_mapped}
use Rattle.lists.specs.SearchLaws.{index_of, first_index, found_below}
use Rattle.text.specs.Text.{text_bytes}
use Rattle.rules.specs.declared.VolumeNo.{VolumeNo}
use Rattle.rules.specs.declared.Placement.{Placement}
use Rattle.rules.specs.declared.Entry.{Entry}
use Rattle.rules.specs.declared.Put.{Put}
use Rattle.rules.specs.Tables.{free_entry, is_entry}
use Rattle.rules.specs.Commit.{is_replaced, entry_for, store_new, store_at, store_all}
use Rattle.kept.specs.declared.KeptEntry.{KeptEntry}
use Rattle.kept.specs.declared.KeptPut.{KeptPut}
use Rattle.kept.specs.Kept.{entry_in, put_in}
use Rattle.kept_entries.specs.KeptEntries.{path_in, entries_in, puts_in, kept_for}
use Rattle.kept_entries.specs.KeptEntryLaws.{kept_bytes_lem, kept_for_lem}
use Rattle.kept_entries.proofs.RowLaws.{blank_kept, blank_kept_put}
use Rattle.kept_entries.proofs.FlagLaws.{put_row}
use Rattle.kept_entries.proofs.DownLaws.{index_or, DownLoop, down_start, down_end, down_passed, down_failed}
use Rattle.kept_entries.proofs.UnmarkedLaws.{Unmarked, PathMarks, unmarked_start, path_marks}

-- an entry stored: row is the row of its path, free the lowest free row, 64 where there is none
module _ (es : List Entry) (size : length es ≡ 64) (e : Entry) where
  store_new_lem : (free : ℕ) (h : Hit Entry) → free ≡ index_or 64 (index_of h) → store_new es e h ≡ set es free e
  unfolding store_new
  store_new_lem free miss q = sym (set_out es free e (omega (arith, q)))
  store_new_lem free (hit i x) q = sym (ap (λ (k : ℕ). set es k e) q)

  module _ (p : Entry → Bool) (row : ℕ) (q : row ≡ index_or 64 (first_at p 0 es)) where
    found : row ≡ index_or 64 (index_of (find p es))
    found = rw (first_index p 0 es) at q

    stored_same : (row ≡ 64 → ⊥) → store_at es e (find p es) ≡ set es row e
    unfolding store_at
    stored_same other = go (find p es) found
      where
        go : (h : Hit Entry) → row ≡ index_or 64 (index_of h) → store_at es e h ≡ set es row e
        go miss z = absurd (other z)
        go (hit i x) z = sym (ap (λ (k : ℕ). set es k e) z)

    stored_free : row ≡ 64 → (free : ℕ) → free ≡ index_or 64 (first_at free_entry 0 es) → store_at es e (find p es) ≡ set es free e
    unfolding store_at
    stored_free none free f = go (find p es) refl found
      where
        go : (h : Hit Entry) → find p es ≡ h → row ≡ index_or 64 (index_of h) → store_at es e h ≡ set es free e
        go miss w z = store_new_lem free (find free_entry es) (rw (first_index free_entry 0 es) at f)
        go (hit i x) w z = absurd (omega (arith, found_below p es i x w, size, none, z))

-- the row that takes a put: none does where it is past the end
pub record RowFor (n : VolumeNo) (p : Put) (es : List Entry) (row : ℕ) : Type 0 where
  pub stored : (e : Entry) → store_at es e (find (is_entry n (text_bytes p.path)) es) ≡ set es row e

-- a placement past the end
abbrev blank_placement : Placement
blank_placement = record { relays = []; len = 0 }

-- the loop over the puts, m of them: what is left to store, from the entries as they are, leaves what all of them leave
pub record StoreLoop (n : VolumeNo) (ps : List Put) (places : List Placement) (es₀ : List Entry) (m i : ℕ) (es : List Entry) : Type 0 where
  pub puts : length ps ≡ m
  pub placements : length places ≡ m
  pub size : length es ≡ 64
  pub rest : store_all n ps places es₀ ≡ store_all n (drop i ps) (drop i places) es

module _ (n : VolumeNo) (ps : List Put) (places : List Placement) (es₀ : List Entry) (m : ℕ) where
  store_start : length ps ≡ m → length places ≡ m → length es₀ ≡ 64 → StoreLoop n ps places es₀ m 0 es₀
  store_start a b c = record { puts = a; placements = b; size = c; rest = refl }

  module _ (i : ℕ) (es : List Entry) (h : StoreLoop n ps places es₀ m i es) where
    store_end : m ≤ i → es ≡ store_all n ps places es₀
    unfolding store_all
    store_end k = sym (h.rest ∙ rw (drop_of_length-le ps {i = i} (omega (arith, h.puts))))

    -- p is put i, with its placement q
    step : (d p : Put) (q : Placement) → i < m → p ≡ get_or ps i d → q ≡ get_or places i blank_placement
        → store_all n ps places es₀
        ≡ store_all n (drop (i + 1) ps) (drop (i + 1) places) (store_at es (entry_for n p q) (find (is_entry n (text_bytes p.path)) es))
    unfolding store_all
    step d p q k a b =
        h.rest
        ∙ rw (
          drop-cons ps i d (omega (arith, h.puts)),
          drop-cons places i blank_placement (omega (arith, h.placements)),
          ← a,
          ← b,
          ← add-one i,
        )

-- a row of a table that was mapped, stored
map_set : {A B : Type 0} (g : A → B) (l : List A) (i : ℕ) (x : A) → map g (set l i x) ≡ set (map g l) i (g x)
map_set g [] i x = refl
map_set g (y ∷ ys) zero x = refl
map_set g (y ∷ ys) (suc i) x = ap (λ zs. g y ∷ zs) (map_set g ys i x)

-- the loop over the kept puts, with the marks of the rows that may have a put's path
pub record PutLoop (j : List ℕ) (n : VolumeNo) (c : ℕ) (puts : List KeptPut) (places : List Placement) (rows₀ : List KeptEntry) (m i : ℕ) (marks : List Bool) (rows : List KeptEntry) : Type 0 where
  pub left : StoreLoop n (take c (puts_in j puts)) (take c places) (entries_in j rows₀) m i (entries_in j rows)
  pub unmarked : Unmarked j n (take c (puts_in j puts)) marks rows

module _ (j : List ℕ) (n : VolumeNo) (c : ℕ) (puts : List KeptPut) (places : List Placement) (rows₀ : List KeptEntry) (m : ℕ) where
  pub put_start : (marks : List Bool) → length (take c (puts_in j puts)) ≡ m → length (take c places) ≡ m → length rows₀ ≡ 64
      → marks ≡ map (is_replaced n (take c (puts_in j puts))) (entries_in j rows₀) → PutLoop j n c puts places rows₀ m 0 marks rows₀
  put_start marks a b q e =
      record {
        left = store_start n (take c (puts_in j puts)) (take c places) (entries_in j rows₀) m a b (length-map rows₀ (entry_in j) ∙ q);
        unmarked = unmarked_start j n (take c (puts_in j puts)) marks rows₀ e q;
      }

  module _ (i : ℕ) (marks : List Bool) (rows : List KeptEntry) (h : PutLoop j n c puts places rows₀ m i marks rows) where
    pub put_end : m ≤ i → entries_in j rows ≡ store_all n (take c (puts_in j puts)) (take c places) (entries_in j rows₀)
    put_end k = store_end n (take c (puts_in j puts)) (take c places) (entries_in j rows₀) m i (entries_in j rows) h.left k

    -- row is the row that takes put i, and next the entries after it
    module _ (w : i < m) (row : ℕ) (takes : RowFor n (put_in j (get_or puts i blank_kept_put)) (entries_in j rows) row) (next : List KeptEntry) where
      within : i < c
      within = omega (arith, length-take c (puts_in j puts), h.left.puts)

      abbrev made : Entry
      made = entry_for n (put_in j (get_or puts i blank_kept_put)) (get_or places i blank_placement)

      stored : store_all n (take c (puts_in j puts)) (take c places) (entries_in j rows₀)
          ≡ store_all n (drop (i + 1) (take c (puts_in j puts))) (drop (i + 1) (take c places)) (set (entries_in j rows) row made)
      stored =
          let a = put_row j puts c m i h.left.puts w in
          let b = get_or-take c places i blank_placement within in
          rw (takes.stored _) at
          (step n (take c (puts_in j puts)) (take c places) (entries_in j rows₀) m i (entries_in j rows) h.left (put_in j blank_kept_put) _ _ w (sym a) (sym b))

      pub store_none : next ≡ rows → 64 ≤ row
          → StoreLoop n (take c (puts_in j puts)) (take c places) (entries_in j rows₀) m (i + 1) (entries_in j next)
      store_none z none =
          let same = set_out (entries_in j rows) row made (omega (arith, h.left.size)) in
          rw z (record { puts = h.left.puts; placements = h.left.placements; size = h.left.size; rest = rw same at stored })

      pub store_put : (x : KeptEntry) → next ≡ set rows row x → x ≡ kept_for n (get_or puts i blank_kept_put) (get_or places i blank_placement)
          → StoreLoop n (take c (puts_in j puts)) (take c places) (entries_in j rows₀) m (i + 1) (entries_in j next)
      store_put x z f =
          let there : entries_in j next ≡ set (entries_in j rows) row made =
          ap (entries_in j) z ∙ map_set (entry_in j) rows row x
          ∙ ap (set (entries_in j rows) row) (ap (entry_in j) f ∙ kept_for_lem j n (get_or puts i blank_kept_put) (get_or places i blank_placement)) in
          rw there
          (record { puts = h.left.puts; placements = h.left.placements; size = length-set (entries_in j rows) row made ∙ h.left.size; rest = stored })

-- the loop over the rows for one put, at row k
pub record RowLoop (j : List ℕ) (n : VolumeNo) (path : List ℕ) (marks : List Bool) (rows : List KeptEntry) (k row free : ℕ) : Type 0 where
  pub unread : PathMarks j n path marks rows
  pub same : DownLoop (is_entry n path) (entries_in j rows) 64 k row
  pub lowest : DownLoop free_entry (entries_in j rows) 64 k free

module _ (j : List ℕ) (n : VolumeNo) (path : List ℕ) (marks : List Bool) (rows : List KeptEntry) (k row free : ℕ) (h : RowLoop j n path marks rows k row free) where
  pub row_turn : (row' free' : ℕ) → DownLoop (is_entry n path) (entries_in j rows) 64 (k - 1) row' → DownLoop free_entry (entries_in j rows) 64 (k - 1) free'
      → RowLoop j n path marks rows (k - 1) row' free'
  row_turn row' free' a b = record { unread = h.unread; same = a; lowest = b }

  pub rows_size : length rows ≡ 64
  rows_size = sym (length-map rows (entry_in j)) ∙ h.same.size

  pub marks_size : length marks ≡ 64
  marks_size = h.unread.size

  -- next is the row that was found with the row before k
  module _ (next : ℕ) (w : 0 < k) where
    row_said : {A : Type 0} (p : Entry → A) (r : A) → r ≡ p (entry_in j (get_or rows (k - 1) blank_kept)) → r ≡ p (get_or (entries_in j rows) (k - 1) (entry_in j blank_kept))
    row_said p r e = e ∙ ap p (sym (get_or-map (entry_in j) rows (k - 1) blank_kept))

    pub same_here : (r : Bool) → r ≡ true → next ≡ k - 1 → r ≡ is_entry n path (entry_in j (get_or rows (k - 1) blank_kept))
        → DownLoop (is_entry n path) (entries_in j rows) 64 (k - 1) next
    same_here r t q e = down_passed (is_entry n path) (entries_in j rows) 64 (entry_in j blank_kept) k row next r h.same w (row_said (is_entry n path) r e) t q

    pub same_past : (r : Bool) → r ≡ false → next ≡ row → r ≡ is_entry n path (entry_in j (get_or rows (k - 1) blank_kept))
        → DownLoop (is_entry n path) (entries_in j rows) 64 (k - 1) next
    same_past r t q e = down_failed (is_entry n path) (entries_in j rows) 64 (entry_in j blank_kept) k row next r h.same w (row_said (is_entry n path) r e) t q

    pub same_unread : get_or marks (k - 1) false ≡ false → next ≡ row → DownLoop (is_entry n path) (entries_in j rows) 64 (k - 1) next
    same_unread f q = same_past false refl q (sym (h.unread.none (k - 1) (omega (arith, h.same.place)) f))

    pub free_turn : next ≡ cond (eqb (get_or rows (k - 1) blank_kept).volume.0 0) (k - 1) free → DownLoop free_entry (entries_in j rows) 64 (k - 1) next
    free_turn q =
        let b = eqb (get_or rows (k - 1) blank_kept).volume.0 0 in
        ⊎_elim
        (λ t. down_passed free_entry (entries_in j rows) 64 (entry_in j blank_kept) k free next b h.lowest w (row_said free_entry b refl) t (rw t at q))
        (λ t. down_failed free_entry (entries_in j rows) 64 (entry_in j blank_kept) k free next b h.lowest w (row_said free_entry b refl) t (rw t at q))
        (pass_or_fail b)

-- of put i
module _ (j : List ℕ) (n : VolumeNo) (puts : List KeptPut) (rows : List KeptEntry) (marks : List Bool) (i : ℕ) where
  pub row_start : (c m : ℕ) (places : List Placement) (rows₀ : List KeptEntry) → PutLoop j n c puts places rows₀ m i marks rows → i < m
      → RowLoop j n (path_in j (get_or puts i blank_kept_put).at (get_or puts i blank_kept_put).len) marks rows 64 64 64
  row_start c m places rows₀ h k =
      let path = path_in j (get_or puts i blank_kept_put).at (get_or puts i blank_kept_put).len in
      record {
        unread = path_marks j n puts c m i marks rows h.unmarked h.left.puts k;
        same = down_start (is_entry n path) (entries_in j rows) 64 h.left.size;
        lowest = down_start free_entry (entries_in j rows) 64 h.left.size;
      }

  -- next is the row that takes the put
  module _ (k row free next : ℕ) (h : RowLoop j n (path_in j (get_or puts i blank_kept_put).at (get_or puts i blank_kept_put).len) marks rows k row free) (z : k ≤ 0) where
    at_path : row ≡ index_or 64 (first_at (is_entry n (text_bytes (put_in j (get_or puts i blank_kept_put)).path)) 0 (entries_in j rows))
    at_path =
        rw (kept_bytes_lem j (get_or puts i blank_kept_put).at (get_or puts i blank_kept_put).len)
        (down_end (is_entry n (path_in j (get_or puts i blank_kept_put).at (get_or puts i blank_kept_put).len)) (entries_in j rows) 64 k row h.same z)

    pub takes_row : next ≡ cond (eqb row 64) free row → RowFor n (put_in j (get_or puts i blank_kept_put)) (entries_in j rows) next
    takes_row q =
        let path = is_entry n (text_bytes (put_in j (get_or puts i blank_kept_put)).path) in
        record {
          stored = λ x.
              ⊎_elim
              (λ t.
              rw (rw t at q)
              (stored_free (entries_in j rows) h.same.size x path row at_path (eqb-true row 64 t) free (down_end free_entry (entries_in j rows) 64 k free h.lowest z)))
              (λ t. rw (rw t at q) (stored_same (entries_in j rows) h.same.size x path row at_path (eqb-false row 64 t)))
              (pass_or_fail (eqb row 64));
        }

pub ruleset stores = (put_end, put_start, length_mapped, sizes)

-- the loop over the rows
pub ruleset turns = (row_turn, same_here, same_past, same_unread, free_turn)
