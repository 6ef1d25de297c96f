-- What a commit reads of the kept entries: the walk over them, and what it comes to. The walk reads no path, and is stated of the empty journal.
-- Assumes nothing.
use mathlib.Core.Path.{◌≡◌, refl, sym, ◌∙◌, ap}
use mathlib.Core.Bool.{Bool, true, false, ◌&&◌, cond, not, and_assoc, and-true, and-false}
use mathlib.Core.List.{List, [], ◌∷◌, map}
use Prim.Native.Nat.{ℕ, suc, ◌+◌, ◌*◌, ◌<◌, ◌≤◌, ◌^◌, min}
use native.Mathlib.Numerals.{add-one}
use native.Mathlib.Omega.{arith}
use mir.Val.{Fits}
use mir.Syntax.{w64}
use borrow.Author.Tests.{leb-true, le-leb, lt-leb, ne_eqb, eq-eqb, not-true}
use borrow.Author.Rules.{rules}
use lib.ListN.{length, take, drop, get_or, replicate, length-take, length-map, drop_of_length-le, get_or-map}
use lib.Seq.{drop-cons}
use Rattle.lists.specs.Lists.{bit, all_of, any_of, count_if}
use Rattle.lists.specs.BoolLaws.{and_left, and_right, not_both}
use Rattle.lists.specs.TestLaws.{all_end}
use Rattle.lists.specs.RowLaws.{rows_length, all_map, count_map}
use Rattle.lists.specs.SumLaws.{bit_lt, count_le, count_end}
use Rattle.lists.specs.AnswerLaws.{none_given, some_given}
use Rattle.rules.specs.declared.VolumeNo.{VolumeNo}
use Rattle.rules.specs.declared.Entry.{Entry}
use Rattle.rules.specs.declared.Put.{Put}
use Rattle.rules.specs.Limits.{size_limit}
use Rattle.rules.specs.Tables.{used_entry, free_entry, in_volume}
use Rattle.rules.proofs.Laws.ApartLaws.{used_not_free, other_part}
use Rattle.rules.proofs.Laws.NumberLaws.{numbered_used}
use Rattle.rules.specs.Commit.{is_replaced, is_new_path}
use Rattle.rows.specs.EntryLaws.{not_in_volume}
use Rattle.entries.specs.Marks.{is_set}
use Rattle.surveys.specs.RowLimits.{entry_within}
use Rattle.surveys.specs.Survey.{left_size, left_bytes, Surveyed}
use Rattle.surveys.specs.SurveyedLaws.{all_new, survey_of}
use Rattle.kept.specs.declared.KeptEntry.{KeptEntry}
use Rattle.kept.specs.declared.KeptPut.{KeptPut}
use Rattle.kept.specs.Kept.{entry_in, put_in}
use Rattle.kept_entries.specs.KeptEntries.{entries_in, puts_in, Tallied}
use Rattle.kept_entries.proofs.RowLaws.{blank_kept}

-- an entry within its limit adds no more than that
left_most : (n : VolumeNo) (b : Bool) (e : Entry) → left_size n b e ≤ 2 ^ 36
unfolding entry_within
left_most n b e = go (entry_within e && in_volume n e && not b) refl
  where
    go : (a : Bool) → (entry_within e && in_volume n e && not b) ≡ a → cond a e.size 0 ≤ 2 ^ 36
    go false q = omega arith
    go true q =
        let both = and_left (entry_within e && in_volume n e) (not b) q in
        let u = numbered_used n.0 e.volume.0 (and_right (entry_within e) (in_volume n e) both) in
        leb-true e.size size_limit (other_part (free_entry e) _ (used_not_free e.volume.0 u) (and_left (entry_within e) (in_volume n e) both))

-- a free entry adds nothing
free_adds : (n : VolumeNo) (b : Bool) (e : Entry) → e.volume.0 ≡ 0 → left_size n b e ≡ 0
unfolding entry_within
free_adds n b e u = rw (of_none (in_volume n e) refl, and-false (entry_within e))
  where
    of_none : (a : Bool) → in_volume n e ≡ a → in_volume n e ≡ false
    of_none false q = q
    of_none true q = absurd (not_both (numbered_used n.0 e.volume.0 q) (none_given e.volume.0 u))

-- the walk over the entries: what was said and counted so far, with the entries from i on, is the whole
pub record TallyLoop (n : VolumeNo) (ms : List Bool) (es : List Entry) (i : ℕ) (within : Bool) (kept used : ℕ) : Type 0 where
  pub size : length es ≡ 64
  pub marks : length ms ≡ 64
  pub low : i ≤ 64
  pub all : all_of entry_within es ≡ (within && all_of entry_within (drop i es))
  pub few : used ≤ i
  pub count : used + count_if used_entry (drop i es) ≡ count_if used_entry es
  pub small : kept ≤ i * 2 ^ 36
  pub left : kept + left_bytes n (drop i ms) (drop i es) ≡ left_bytes n ms es

module _ (n : VolumeNo) (ms : List Bool) (rows : List KeptEntry) where
  abbrev es : List Entry
  es = entries_in [] rows

  pub tally_start : length rows ≡ 64 → length ms ≡ 64 → TallyLoop n ms (entries_in [] rows) 0 true 0 0
  tally_start e f =
      let s : length (entries_in [] rows) ≡ 64 = length-map rows (entry_in []) ∙ e in
      record { size = s; marks = f; low = omega arith; all = refl; few = omega arith; count = omega arith; small = omega arith; left = omega arith }

  module _ (i : ℕ) (within : Bool) (kept used : ℕ) (h : TallyLoop n ms (entries_in [] rows) i within kept used) where
    tally_all : 64 ≤ i → within ≡ all_of entry_within es
    tally_all k = sym (h.all ∙ rw (all_end entry_within es i (omega (arith, h.size))) (and-true within))

    tally_used : 64 ≤ i → used ≡ count_if used_entry es
    tally_used k = count_end used_entry es i used (omega (arith, h.size)) h.count

    tally_left : 64 ≤ i → kept ≡ left_bytes n ms es
    unfolding left_bytes
    tally_left k =
        let z : left_bytes n (drop i ms) (drop i es) ≡ 0 = rw (drop_of_length-le ms {i = i} (omega (arith, h.marks))) in
        omega (arith, h.left, z)

    pub tally_end : 64 ≤ i → Tallied n ms (entries_in [] rows) within kept used
    tally_end k =
        record {
          limits = tally_all k;
          left = tally_left k;
          small = omega (arith, h.small, h.low);
          count = tally_used k;
          few = omega (arith, h.few, h.low);
        }

    -- what is said and counted after row i
    module _ (k : i < 64) (within' : Bool) (kept' used' : ℕ) where
      abbrev x : KeptEntry
      x = get_or rows i blank_kept

      abbrev e : Entry
      e = entry_in [] x

      abbrev b : Bool
      b = get_or ms i false

      step : within' ≡ (within && entry_within e) → used' ≡ used + bit (used_entry e) → kept' ≡ kept + left_size n b e
          → TallyLoop n ms (entries_in [] rows) (i + 1) within' kept' used'
      unfolding count_if left_bytes
      step a c d =
          let first : drop i es ≡ e ∷ drop (i + 1) es =
          rw (add-one i) (drop-cons es i (entry_in [] blank_kept) (omega (arith, h.size)) ∙ ap (λ (y : Entry). y ∷ drop (suc i) es) (get_or-map (entry_in []) rows i blank_kept)) in
          let y : drop i ms ≡ b ∷ drop (i + 1) ms = rw (add-one i) (drop-cons ms i false (omega (arith, h.marks))) in
          let counted = rw first at h.count in
          let lefts = rw (first, y) at h.left in
          record {
            size = h.size;
            marks = h.marks;
            low = omega arith;
            all = rw first at h.all ∙ rw a (sym (and_assoc within (entry_within e) (all_of entry_within (drop (i + 1) es))));
            few = omega (arith, c, h.few, bit_lt (used_entry e));
            count = omega (arith, c, counted);
            small = omega (arith, d, h.small, left_most n b e);
            left = omega (arith, d, lefts);
          }

      pub tally_over : within' ≡ false → kept' ≡ kept → used' ≡ used + 1 → size_limit < (get_or rows i blank_kept).size → ((get_or rows i blank_kept).volume.0 ≡ 0 → ⊥)
          → TallyLoop n ms (entries_in [] rows) (i + 1) within' kept' used'
      unfolding entry_within
      tally_over a d c w u =
          let f = ne_eqb x.volume.0 0 u in
          let l = lt-leb x.size size_limit w in
          let z : left_size n b e ≡ 0 = rw (f, l) in
          step (a ∙ rw (f, l) (sym (and-false within))) (c ∙ rw (some_given x.volume.0 u)) (omega (arith, d, z))

      tally_under : within' ≡ within → used' ≡ used + 1 → x.size ≤ size_limit → (x.volume.0 ≡ 0 → ⊥) → kept' ≡ kept + cond (in_volume n e && not b) x.size 0
          → TallyLoop n ms (entries_in [] rows) (i + 1) within' kept' used'
      unfolding entry_within
      tally_under a c w u d =
          let f = ne_eqb x.volume.0 0 u in
          let l = le-leb x.size size_limit w in
          step (a ∙ rw (f, l) (sym (and-true within))) (c ∙ rw (some_given x.volume.0 u)) (d ∙ sym (rw (f, l)))

      pub tally_other : within' ≡ within → kept' ≡ kept → used' ≡ used + 1 → ((get_or rows i blank_kept).volume.0 ≡ n.0 → ⊥) → (get_or rows i blank_kept).size ≤ size_limit
          → ((get_or rows i blank_kept).volume.0 ≡ 0 → ⊥) → TallyLoop n ms (entries_in [] rows) (i + 1) within' kept' used'
      tally_other a d c o w u = tally_under a c w u (rw (not_in_volume n e o) (omega (arith, d)))

      -- an entry of the volume
      ours : x.volume.0 ≡ n.0 → (x.volume.0 ≡ 0 → ⊥) → in_volume n e ≡ true
      ours q u = rw (← q, some_given x.volume.0 u) (eq-eqb x.volume.0 x.volume.0 refl)

      pub tally_adds : within' ≡ within → kept' ≡ kept + (get_or rows i blank_kept).size → used' ≡ used + 1 → not (get_or ms i false) ≡ true
          → (get_or rows i blank_kept).volume.0 ≡ n.0 → (get_or rows i blank_kept).size ≤ size_limit → ((get_or rows i blank_kept).volume.0 ≡ 0 → ⊥)
          → TallyLoop n ms (entries_in [] rows) (i + 1) within' kept' used'
      tally_adds a d c m q w u = tally_under a c w u (rw (ours q u, m) d)

      pub tally_replaced : within' ≡ within → kept' ≡ kept → used' ≡ used + 1 → not (get_or ms i false) ≡ false → (get_or rows i blank_kept).volume.0 ≡ n.0
          → (get_or rows i blank_kept).size ≤ size_limit → ((get_or rows i blank_kept).volume.0 ≡ 0 → ⊥) → TallyLoop n ms (entries_in [] rows) (i + 1) within' kept' used'
      tally_replaced a d c m q w u = tally_under a c w u (rw (ours q u, m) (omega (arith, d)))

      pub tally_free : within' ≡ within → kept' ≡ kept → used' ≡ used → (get_or rows i blank_kept).volume.0 ≡ 0
          → TallyLoop n ms (entries_in [] rows) (i + 1) within' kept' used'
      unfolding entry_within
      tally_free a d c u =
          let o : left_size n b e ≡ 0 = free_adds n b e u in
          step (a ∙ rw u (sym (and-true within))) (rw u (omega (arith, c))) (omega (arith, d, o))

pub ruleset tallies = (tally_end, tally_start, rows_length, rules)

-- what was counted is so whatever the journal is
module _ (j : List ℕ) where
  within_same : (rows : List KeptEntry) → all_of entry_within (entries_in [] rows) ≡ all_of entry_within (entries_in j rows)
  unfolding entry_within
  within_same rows = all_map (entry_in []) rows entry_within (λ x. entry_within (entry_in j x)) (λ x. refl) ∙ sym (all_map (entry_in j) rows entry_within (λ x. entry_within (entry_in j x)) (λ x. refl))

  used_same : (rows : List KeptEntry) → count_if used_entry (entries_in [] rows) ≡ count_if used_entry (entries_in j rows)
  used_same rows = count_map (entry_in []) rows used_entry (λ x. used_entry (entry_in j x)) (λ x. refl) ∙ sym (count_map (entry_in j) rows used_entry (λ x. used_entry (entry_in j x)) (λ x. refl))

  left_same : (n : VolumeNo) (ms : List Bool) (rows : List KeptEntry) → left_bytes n ms (entries_in [] rows) ≡ left_bytes n ms (entries_in j rows)
  unfolding left_bytes entry_within
  left_same n [] rows = refl
  left_same n (b ∷ bs) [] = refl
  left_same n (b ∷ bs) (x ∷ xs) = ap (λ (s : ℕ). left_size n b (entry_in j x) + s) (left_same n bs xs)

-- no puts replace nothing
no_marks : {A : Type 0} (p : A → Bool) (l : List A) → ((x : A) → p x ≡ false) → map p l ≡ replicate (length l) false
no_marks p [] f = refl
no_marks p (x ∷ xs) f = rw (f x, no_marks p xs f)

never : (n : VolumeNo) (e : Entry) → is_replaced n [] e ≡ false
unfolding is_replaced
never n e = and-false (in_volume n e)

none_replaced : (n : VolumeNo) (count : ℕ) (puts : List Put) (es : List Entry) → count ≡ 0 → length es ≡ 64
    → replicate 64 false ≡ map (is_replaced n (take count puts)) es
none_replaced n count puts es z l = rw z (rw l at (sym (no_marks (is_replaced n []) es (never n))))

-- what was read
module _ (j : List ℕ) (n : VolumeNo) (count : ℕ) (puts : List KeptPut) (rows : List KeptEntry) (ms : List Bool) (within : Bool) (kept used all : ℕ)
    (t : Tallied n ms (entries_in [] rows) within kept used) where
  read : ms ≡ map (is_replaced n (take count (puts_in j puts))) (entries_in j rows)
      → all ≡ used + count_if (is_new_path n (entries_in j rows)) (take count (puts_in j puts))
      → Surveyed n (take count (puts_in j puts)) (entries_in j rows) ms within kept all
  read e f =
      survey_of n count (puts_in j puts) (entries_in j rows) ms within kept all
      (t.limits ∙ within_same j rows) (t.left ∙ left_same j n ms rows) t.small e
      (omega (arith, f, t.count, used_same j rows))

  pub survey_none : count ≡ 0 → ms ≡ replicate 64 false → all ≡ used → length rows ≡ 64
      → Surveyed n (take count (puts_in j puts)) (entries_in j rows) ms within kept all
  unfolding count_if
  survey_none z m q l =
      read (m ∙ none_replaced n count (puts_in j puts) (entries_in j rows) z (length-map rows (entry_in j) ∙ l)) (rw z (omega (arith, q)))

  pub survey_some : (new : ℕ) → all ≡ used + new → new ≡ count_if (is_new_path n (entries_in j rows)) (take count (puts_in j puts))
      → ms ≡ map (is_replaced n (take count (puts_in j puts))) (entries_in j rows)
      → Surveyed n (take count (puts_in j puts)) (entries_in j rows) ms within kept all
  survey_some new q f e = read e (omega (arith, f, q))

-- where no entry is replaced every put is new
pub every_new : (j : List ℕ) (n : VolumeNo) (count m : ℕ) (puts : List KeptPut) (rows : List KeptEntry) (ms : List Bool) (r : Bool)
    → not r ≡ true → r ≡ any_of is_set ms → ms ≡ map (is_replaced n (take count (puts_in j puts))) (entries_in j rows) → m ≡ min count 8 → length puts ≡ 8
    → m ≡ count_if (is_new_path n (entries_in j rows)) (take count (puts_in j puts))
every_new j n count m puts rows ms r t g e f l =
    let z = all_new n (entries_in j rows) (take count (puts_in j puts)) (rw e at (sym g ∙ not-true r t)) in
    omega (arith, f, z, length-take count (puts_in j puts), length-map puts (put_in j))

-- the rows are a number of the machine
pub new_fits : (j : List ℕ) (n : VolumeNo) (count : ℕ) (puts : List KeptPut) (rows : List KeptEntry) (used new : ℕ)
    → new ≡ count_if (is_new_path n (entries_in j rows)) (take count (puts_in j puts)) → length puts ≡ 8 → used ≤ 64 → Fits w64 (used + new)
new_fits j n count puts rows used new e l h =
    record { fits = omega (arith, count_le (is_new_path n (entries_in j rows)) (take count (puts_in j puts)), length-take count (puts_in j puts), length-map puts (put_in j)) }

pub ruleset surveys = (survey_none, survey_some, new_fits, rows_length, rules)
