-- Laws of entries that are stored one after another, each in the row of the entry that it replaces, or in a free one. So the paths stay
-- apart, every entry after it is an old one that is not replaced or a new one, and sums change by what went and what came. Assumes nothing.
use Rattle.std.specs.Prelude.{◌≡◌, refl, Bool, false, ◌||◌, cond, ◌⊎◌, ℕ, suc, ◌+◌, ◌<◌, ◌≤◌, eqb, set}
use Rattle.std.proofs.Math.Path.{ap, sym}
use Rattle.std.proofs.Common.{◌∙◌, get_or-set_same, get_or-set_other, eqb-true}
use Rattle.std.proofs.Math.Bool.{true, not}
use Rattle.std.proofs.Math.Logic.{inl, inr, ⊎_elim}
use mathlib.Core.List.{List, [], ◌∷◌}
use native.Mathlib.Omega.{arith}
use Rattle.std.proofs.Math.ListN.{length, get_or, length-set}
use Rattle.std.proofs.Math.Seq.{map-set_same}
use Rattle.std.proofs.lemmas.Bool.{eqb-false}
use Rattle.lists.specs.Lists.{bit, Hit, miss, hit, find, all_of, any_of, count_if, keep, sum_of, no_clash}
use Rattle.lists.specs.BoolLaws.{and_left, and_right, pass_or_fail, not_pass}
use Rattle.lists.specs.SearchLaws.{FoundRow, found_row, some_found, miss_none, row_passes, found_below, found_at}
use Rattle.lists.specs.TestLaws.{all_at, at_all, none_at, at_none, at_any, clash_at}
use Rattle.lists.specs.SumLaws.{sum_keep}
use Rattle.lists.specs.RowLaws.{map_agree, any_same, count_same}
use Rattle.rules.specs.declared.Entry.{Entry}
use Rattle.rules.specs.Fresh.{fresh_entry}
use Rattle.rules.specs.Tables.{given, used_entry, free_entry}
use Rattle.rules.specs.Commit.{store_new, store_at}
use Rattle.rules.specs.Sound.{same_entry}
use Rattle.rules.proofs.Laws.BranchLaws.{cond_case}
use Rattle.rules.proofs.Laws.ApartLaws.{either_part, free_used, free_not_used, clash_one}
use Rattle.rules.proofs.Laws.OneRowLaws.{sum_but_one, not_all_count, sum_set, count_set, clash_store}
use Rattle.rules.proofs.Laws.EntryLaws.{same_entry_symmetric, same_entry_number, same_entry_reads, free_apart}

-- an entry stored: in the row of the entry that it replaces, or in a free one
unfoldable pub store_one : Entry → List Entry → List Entry
store_one e es = store_at es e (find (same_entry e) es)

-- entries stored one after another
unfoldable pub stored : List Entry → List Entry → List Entry
stored [] es = es
stored (e ∷ news) es = stored news (store_one e es)

-- an entry that one of the new ones replaces
unfoldable pub replaced_by : List Entry → Entry → Bool
replaced_by news x = any_of (λ e. same_entry e x) news

-- an entry that replaces none
unfoldable pub is_new : List Entry → Entry → Bool
is_new es e = not (any_of (same_entry e) es)

-- where an entry is stored
record Stores (e : Entry) (es after : List Entry) : Type 0 where
  row : ℕ
  below : row < length es
  set_to : after ≡ set es row e
  others : (j : ℕ) → j < length es → (j ≡ row → ⊥) → same_entry e (get_or es j fresh_entry) ≡ false
  old : (free_entry (get_or es row fresh_entry) ≡ true) ⊎ (same_entry e (get_or es row fresh_entry) ≡ true)

module _ (e : Entry) (es : List Entry) (apart : no_clash same_entry es ≡ true) where
  -- the row that it replaces
  store_replaced : (i : ℕ) (x : Entry) → find (same_entry e) es ≡ hit i x → Stores e es (store_one e es)
  unfolding store_one store_at
  store_replaced i x q =
      let y = get_or es i fresh_entry in
      let s : same_entry e y ≡ true = rw (found_at (same_entry e) es i x q fresh_entry) (row_passes (same_entry e) es 0 i x q) in
      record {
        row = i;
        below = found_below (same_entry e) es i x q;
        set_to = rw q;
        others = λ j h n.
            not_pass (same_entry e (get_or es j fresh_entry))
            (λ f.
            let z = get_or es j fresh_entry in
            n (clash_one same_entry es fresh_entry apart j i h (found_below (same_entry e) es i x q)
            (same_entry_reads e z f y ∙ s) (same_entry_reads e y s z ∙ f)));
        old = inr s;
      }

  -- the lowest free row
  store_free : (i : ℕ) (x : Entry) → find (same_entry e) es ≡ miss → find free_entry es ≡ hit i x → Stores e es (store_one e es)
  unfolding store_one store_at store_new
  store_free i x m q =
      record {
        row = i;
        below = found_below free_entry es i x q;
        set_to = rw (m, q);
        others = λ j h n. none_at (same_entry e) es (miss_none (same_entry e) es 0 m) j h fresh_entry;
        old = inl (rw (found_at free_entry es i x q fresh_entry) (row_passes free_entry es 0 i x q));
      }

  -- there is one
  some_free : count_if used_entry es < length es → any_of free_entry es ≡ true
  some_free h =
      ⊎_elim (λ t. t) (λ f. absurd (omega (arith, not_all_count used_entry free_entry es (λ x. free_used x.volume.0) f)))
      (pass_or_fail (any_of free_entry es))

  stores : (any_of (same_entry e) es ≡ false → count_if used_entry es < length es) → Stores e es (store_one e es)
  stores room = go (find (same_entry e) es) refl
    where
      free : find (same_entry e) es ≡ miss → FoundRow (find free_entry es) → Stores e es (store_one e es)
      free m (found_row i x q) = store_free i x m q

      go : (h : Hit Entry) → find (same_entry e) es ≡ h → Stores e es (store_one e es)
      go miss m = free m (some_found free_entry es 0 (some_free (room (miss_none (same_entry e) es 0 m))))
      go (hit i x) q = store_replaced i x q

-- entries that can be stored: no two of one path, and rows enough
pub record Ready (news es : List Entry) : Type 0 where
  pub apart : no_clash same_entry es ≡ true
  pub new_apart : no_clash same_entry news ≡ true
  pub new_used : all_of used_entry news ≡ true
  pub room : count_if used_entry es + count_if (is_new es) news ≤ length es

-- after one of them is stored
module _ (e : Entry) (news es after : List Entry) (ready : Ready (e ∷ news) es) (s : Stores e es after) where
  abbrev gone : Entry
  gone = get_or es s.row fresh_entry

  used_e : used_entry e ≡ true
  used_e = and_left (used_entry e) (all_of used_entry news) ready.new_used

  apart_e : (j : ℕ) → j < length news → same_entry e (get_or news j fresh_entry) ≡ false
  apart_e j h = clash_at same_entry (e ∷ news) ready.new_apart 0 (suc j) (omega arith) (omega arith) fresh_entry

  -- no later one replaces it, nor what it replaced
  later_e : (j : ℕ) → j < length news → same_entry (get_or news j fresh_entry) e ≡ false
  later_e j h = same_entry_symmetric (get_or news j fresh_entry) e ∙ apart_e j h

  later_gone : (j : ℕ) → j < length news → same_entry (get_or news j fresh_entry) gone ≡ false
  later_gone j h =
      let x = get_or news j fresh_entry in
      ⊎_elim (λ f. free_apart x gone f) (λ f. same_entry_symmetric x gone ∙ same_entry_reads e gone f x ∙ apart_e j h) s.old

  kept_e : replaced_by news e ≡ false
  unfolding replaced_by
  kept_e = at_none (λ x. same_entry x e) news fresh_entry later_e

  kept_gone_lem : replaced_by news gone ≡ false
  unfolding replaced_by
  kept_gone_lem = at_none (λ x. same_entry x gone) news fresh_entry later_gone

  -- each later one is as new as it was
  new_same : (j : ℕ) → j < length news → is_new after (get_or news j fresh_entry) ≡ is_new es (get_or news j fresh_entry)
  unfolding is_new
  new_same j h =
      let x = get_or news j fresh_entry in
      rw s.set_to
      (ap not
      (any_same (same_entry x) (same_entry x) (set es s.row e) es
      (map-set_same (same_entry x) es s.row e fresh_entry (later_e j h ∙ sym (later_gone j h)))))

  -- it takes a free row exactly where it is new
  row_taken : bit (used_entry gone) + bit (is_new es e) ≡ 1
  unfolding is_new
  row_taken =
      ⊎_elim
      (λ f.
      let none =
      at_none (same_entry e) es fresh_entry
      (λ j h.
      ⊎_elim (λ q. rw (eqb-true j s.row q) (free_apart e gone f)) (λ q. s.others j h (eqb-false j s.row q)) (pass_or_fail (eqb j s.row))) in
      rw (free_not_used gone.volume.0 f, none))
      (λ f.
      let u : used_entry gone ≡ true = ap given (same_entry_number e gone f) ∙ used_e in
      rw (u, at_any (same_entry e) es s.row fresh_entry s.below f))
      s.old

  still_apart : no_clash same_entry after ≡ true
  still_apart =
      rw s.set_to
      (clash_store es s.row e fresh_entry same_entry ready.apart
      (λ j h k. same_entry_symmetric (get_or es j fresh_entry) e ∙ s.others j (omega arith) (λ q. omega arith))
      (λ j h k. s.others j k (λ q. omega arith)))

  still_room : count_if used_entry after + count_if (is_new after) news ≤ length after
  unfolding count_if
  still_room =
      let c : count_if used_entry after + bit (used_entry gone) ≡ count_if used_entry es + 1 =
      rw s.set_to (rw used_e at (count_set es s.row e fresh_entry used_entry s.below)) in
      let n = count_same (is_new after) (is_new es) news news (map_agree (is_new after) (is_new es) news fresh_entry new_same) in
      let l : length after ≡ length es = rw s.set_to (length-set es s.row e) in
      let r : count_if used_entry es + (bit (is_new es e) + count_if (is_new es) news) ≤ length es = ready.room in
      let w = row_taken in
      omega arith

  still_ready : Ready news after
  unfolding no_clash
  still_ready =
      record {
        apart = still_apart;
        new_apart = and_right (not (any_of (same_entry e) news)) (no_clash same_entry news) ready.new_apart;
        new_used = and_right (used_entry e) (all_of used_entry news) ready.new_used;
        room = still_room;
      }

  -- a sum whose free rows are 0: what went and what came
  module _ (f : Entry → ℕ) (zero-free : (x : Entry) → free_entry x ≡ true → f x ≡ 0) where
    abbrev lost : List Entry → Entry → ℕ
    lost ns x = cond (replaced_by ns x) (f x) 0

    lost_gone : lost (e ∷ news) gone ≡ f gone
    unfolding replaced_by
    lost_gone =
        ⊎_elim (λ q. cond_case (λ n. n ≡ f gone) (replaced_by (e ∷ news) gone) (f gone) 0 (λ t. refl) (λ t. sym (zero-free gone q))) (λ q. rw q) s.old

    lost_other : (j : ℕ) → j < length es → (j ≡ s.row → ⊥) → lost (e ∷ news) (get_or es j fresh_entry) ≡ lost news (get_or es j fresh_entry)
    unfolding replaced_by
    lost_other j h n = rw (s.others j h n)

    sum_step : sum_of f after + sum_of (lost (e ∷ news)) es ≡ sum_of f es + f e + sum_of (lost news) after
    sum_step =
        let a : sum_of f after + f gone ≡ sum_of f es + f e = rw s.set_to (sum_set es s.row e fresh_entry f s.below) in
        let b : sum_of (lost news) after + 0 ≡ sum_of (lost news) es + 0 =
        rw s.set_to (rw (kept_e, kept_gone_lem) at (sum_set es s.row e fresh_entry (lost news) s.below)) in
        let c : sum_of (lost (e ∷ news)) es + 0 ≡ sum_of (lost news) es + f gone =
        rw (kept_gone_lem, lost_gone) at (sum_but_one (lost (e ∷ news)) (lost news) es s.row fresh_entry s.below lost_other) in
        omega arith

  -- a test that the new one and the old ones that stay pass
  row_new : (j : ℕ) → eqb j s.row ≡ true → get_or after j fresh_entry ≡ e
  row_new j t = rw (s.set_to, eqb-true j s.row t) (get_or-set_same es s.row e fresh_entry s.below)

  row_old : (j : ℕ) → eqb j s.row ≡ false → get_or after j fresh_entry ≡ get_or es j fresh_entry
  row_old j t = rw s.set_to (get_or-set_other es s.row j e fresh_entry (eqb-false j s.row t))

  rows_step : (q : Entry → Bool) → all_of (λ x. replaced_by (e ∷ news) x || q x) es ≡ true → q e ≡ true
      → all_of (λ x. replaced_by news x || q x) after ≡ true
  unfolding replaced_by
  rows_step q h k =
      at_all (λ x. replaced_by news x || q x) after fresh_entry
      (λ j b.
      let x = get_or es j fresh_entry in
      let c : j < length es = rw (s.set_to, length-set es s.row e) at b in
      ⊎_elim (λ t. rw (row_new j t) (either_part (replaced_by news e) (q e) (λ z. k)))
      (λ t.
      let n = s.others j c (eqb-false j s.row t) in
      rw (row_old j t) (rw n at (all_at (λ x. replaced_by (e ∷ news) x || q x) es h j c fresh_entry)))
      (pass_or_fail (eqb j s.row)))

-- one of them is stored
module _ (e : Entry) (news es : List Entry) (ready : Ready (e ∷ news) es) where
  room_for : any_of (same_entry e) es ≡ false → count_if used_entry es < length es
  unfolding count_if is_new
  room_for n =
      let r : count_if used_entry es + (1 + count_if (is_new es) news) ≤ length es = rw n at ready.room in
      omega arith

  first_stored : Stores e es (store_one e es)
  first_stored = stores e es ready.apart room_for

-- all of them
pub length_stored : (news es : List Entry) → Ready news es → length (stored news es) ≡ length es
unfolding stored
length_stored [] es ready = refl
length_stored (e ∷ news) es ready =
    let s = first_stored e news es ready in
    length_stored news (store_one e es) (still_ready e news es (store_one e es) ready s) ∙ ap length s.set_to ∙ length-set es s.row e

pub stored_apart : (news es : List Entry) → Ready news es → no_clash same_entry (stored news es) ≡ true
unfolding stored
stored_apart [] es ready = ready.apart
stored_apart (e ∷ news) es ready =
    stored_apart news (store_one e es) (still_ready e news es (store_one e es) ready (first_stored e news es ready))

pub stored_rows : (q : Entry → Bool) (news es : List Entry) → Ready news es → all_of (λ x. replaced_by news x || q x) es ≡ true
    → all_of q news ≡ true → all_of q (stored news es) ≡ true
unfolding stored replaced_by
stored_rows q [] es ready h k = h
stored_rows q (e ∷ news) es ready h k =
    let s = first_stored e news es ready in
    stored_rows q news (store_one e es) (still_ready e news es (store_one e es) ready s)
    (rows_step e news es (store_one e es) ready s q h (and_left (q e) (all_of q news) k)) (and_right (q e) (all_of q news) k)

sum_none : (es : List Entry) → sum_of (λ x. 0) es ≡ 0
unfolding sum_of
sum_none [] = refl
sum_none (x ∷ xs) = omega (arith, sum_none xs)

module _ (f : Entry → ℕ) (zero-free : (x : Entry) → free_entry x ≡ true → f x ≡ 0) where
  sum_lost : (news es : List Entry) → Ready news es → sum_of f (stored news es) + sum_of (λ x. cond (replaced_by news x) (f x) 0) es ≡ sum_of f es + sum_of f news
  unfolding stored sum_of replaced_by
  sum_lost [] es ready = omega (arith, sum_none es)
  sum_lost (e ∷ news) es ready =
      let s = first_stored e news es ready in
      omega (
        arith,
        sum_lost news (store_one e es) (still_ready e news es (store_one e es) ready s),
        sum_step e news es (store_one e es) ready s f zero-free,
      )

  pub stored_sum : (news es : List Entry) → Ready news es → sum_of f (stored news es) + sum_of f (keep (replaced_by news) es) ≡ sum_of f es + sum_of f news
  stored_sum news es ready =
      rw (sum_keep f (λ x. cond (replaced_by news x) (f x) 0) (replaced_by news) es (λ x. refl)) (sum_lost news es ready)
