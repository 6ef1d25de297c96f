-- What a commit reads of the entries: the walk over them, and what it comes to. Assumes nothing.
use mathlib.Core.Path.{◌≡◌, refl, sym, ◌∙◌}
use mathlib.Core.Bool.{Bool, true, false, ◌&&◌, cond, not, and_assoc, and-true, and-false}
use mathlib.Core.List.{List, [], ◌∷◌, map}
use Prim.Native.Nat.{ℕ, ◌+◌, ◌*◌, ◌<◌, ◌≤◌, ◌^◌, min}
use native.Mathlib.Numerals.{add-one}
use native.Mathlib.Omega.{arith}
use mir.Val.{Fits}
use mir.Syntax.{w64}
use borrow.Author.Tests.{leb-true, le-leb, lt-leb, ne_eqb, eq-eqb}
use borrow.Author.Rules.{rules}
use lib.ListN.{length, take, drop, get_or, replicate, length-take, drop_of_length-le}
use lib.Seq.{drop-cons}
use Rattle.lists.specs.Lists.{bit, all_of, any_of, count_if}
use Rattle.lists.specs.BoolLaws.{and_left, and_right, not_both}
use Rattle.lists.specs.TestLaws.{all_end}
use Rattle.lists.specs.RowLaws.{rows_length}
use Rattle.lists.specs.SumLaws.{bit_lt, count_le, count_end}
use Rattle.lists.specs.AnswerLaws.{none_given, some_given}
use Rattle.rules.specs.declared.VolumeNo.{VolumeNo}
use Rattle.rules.specs.declared.Entry.{Entry}
use Rattle.rules.specs.declared.Put.{Put}
use Rattle.rules.specs.Limits.{size_limit}
use Rattle.rules.specs.Tables.{used_entry, free_entry, in_volume}
use Rattle.rules.proofs.Laws.ApartLaws.{used_not_free, other_part}
use Rattle.rules.proofs.Laws.NumberLaws.{numbered_used}
use Rattle.rules.specs.Commit.{is_replaced, is_new_path}
use Rattle.rows.specs.Blank.{blank_entry}
use Rattle.rows.specs.EntryLaws.{not_in_volume}
use Rattle.entries.specs.Marks.{is_set}
use Rattle.surveys.specs.RowLimits.{entry_within}
use Rattle.surveys.specs.Survey.{left_size, left_bytes, Surveyed}
use Rattle.surveys.specs.SurveyedLaws.{all_new, survey_of}

-- an entry within its limit adds no more than that
left_most : (n : VolumeNo) (b : Bool) (e : Entry) → left_size n b e ≤ 2 ^ 36
unfolding entry_within
left_most n b e = go (entry_within e && in_volume n e && not b) refl
  where
    go : (a : Bool) → (entry_within e && in_volume n e && not b) ≡ a → cond a e.size 0 ≤ 2 ^ 36
    go false q = omega arith
    go true q =
        let both = and_left (entry_within e && in_volume n e) (not b) q in
        let u = numbered_used n.0 e.volume.0 (and_right (entry_within e) (in_volume n e) both) in
        leb-true e.size size_limit (other_part (free_entry e) _ (used_not_free e.volume.0 u) (and_left (entry_within e) (in_volume n e) both))

-- a free entry adds nothing
free_adds : (n : VolumeNo) (b : Bool) (e : Entry) → e.volume.0 ≡ 0 → left_size n b e ≡ 0
unfolding entry_within
free_adds n b e u = rw (of_none (in_volume n e) refl, and-false (entry_within e))
  where
    of_none : (a : Bool) → in_volume n e ≡ a → in_volume n e ≡ false
    of_none false q = q
    of_none true q = absurd (not_both (numbered_used n.0 e.volume.0 q) (none_given e.volume.0 u))

-- the walk over the entries: what was said and counted so far, with the entries from i on, is the whole
pub record TallyLoop (n : VolumeNo) (ms : List Bool) (es : List Entry) (i : ℕ) (within : Bool) (kept used : ℕ) : Type 0 where
  pub size : length es ≡ 64
  pub marks : length ms ≡ 64
  pub low : i ≤ 64
  pub all : all_of entry_within es ≡ (within && all_of entry_within (drop i es))
  pub few : used ≤ i
  pub count : used + count_if used_entry (drop i es) ≡ count_if used_entry es
  pub small : kept ≤ i * 2 ^ 36
  pub left : kept + left_bytes n (drop i ms) (drop i es) ≡ left_bytes n ms es

module _ (n : VolumeNo) (ms : List Bool) (es : List Entry) where
  pub tally_start : length es ≡ 64 → length ms ≡ 64 → TallyLoop n ms es 0 true 0 0
  tally_start e f =
      record { size = e; marks = f; low = omega arith; all = refl; few = omega arith; count = omega arith; small = omega arith; left = omega arith }

  module _ (i : ℕ) (within : Bool) (kept used : ℕ) (h : TallyLoop n ms es i within kept used) where
    pub tally_all : 64 ≤ i → within ≡ all_of entry_within es
    tally_all k = sym (h.all ∙ rw (all_end entry_within es i (omega (arith, h.size))) (and-true within))

    pub tally_used : 64 ≤ i → used ≡ count_if used_entry es
    tally_used k = count_end used_entry es i used (omega (arith, h.size)) h.count

    pub tally_few : used ≤ 64
    tally_few = omega (arith, h.few, h.low)

    pub tally_small : kept ≤ 64 * 2 ^ 36
    tally_small = omega (arith, h.small, h.low)

    pub tally_left : 64 ≤ i → kept ≡ left_bytes n ms es
    unfolding left_bytes
    tally_left k =
        let z : left_bytes n (drop i ms) (drop i es) ≡ 0 = rw (drop_of_length-le ms {i = i} (omega (arith, h.marks))) in
        omega (arith, h.left, z)

    -- what is said and counted after row i
    module _ (k : i < 64) (within' : Bool) (kept' used' : ℕ) where
      abbrev e : Entry
      e = get_or es i blank_entry

      abbrev b : Bool
      b = get_or ms i false

      step : within' ≡ (within && entry_within e) → used' ≡ used + bit (used_entry e) → kept' ≡ kept + left_size n b e → TallyLoop n ms es (i + 1) within' kept' used'
      unfolding count_if left_bytes
      step a c d =
          let x : drop i es ≡ e ∷ drop (i + 1) es = rw (add-one i) (drop-cons es i blank_entry (omega (arith, h.size))) in
          let y : drop i ms ≡ b ∷ drop (i + 1) ms = rw (add-one i) (drop-cons ms i false (omega (arith, h.marks))) in
          let counted = rw x at h.count in
          let lefts = rw (x, y) at h.left in
          record {
            size = h.size;
            marks = h.marks;
            low = omega arith;
            all = rw x at h.all ∙ rw a (sym (and_assoc within (entry_within e) (all_of entry_within (drop (i + 1) es))));
            few = omega (arith, c, h.few, bit_lt (used_entry e));
            count = omega (arith, c, counted);
            small = omega (arith, d, h.small, left_most n b e);
            left = omega (arith, d, lefts);
          }

      pub tally_over : within' ≡ false → kept' ≡ kept → used' ≡ used + 1 → size_limit < e.size → (e.volume.0 ≡ 0 → ⊥)
          → TallyLoop n ms es (i + 1) within' kept' used'
      unfolding entry_within
      tally_over a d c w u =
          let f = ne_eqb e.volume.0 0 u in
          let l = lt-leb e.size size_limit w in
          let z : left_size n b e ≡ 0 = rw (f, l) in
          step (a ∙ rw (f, l) (sym (and-false within))) (c ∙ rw (some_given e.volume.0 u)) (omega (arith, d, z))

      tally_under : within' ≡ within → used' ≡ used + 1 → e.size ≤ size_limit → (e.volume.0 ≡ 0 → ⊥) → kept' ≡ kept + cond (in_volume n e && not b) e.size 0
          → TallyLoop n ms es (i + 1) within' kept' used'
      unfolding entry_within
      tally_under a c w u d =
          let f = ne_eqb e.volume.0 0 u in
          let l = le-leb e.size size_limit w in
          step (a ∙ rw (f, l) (sym (and-true within))) (c ∙ rw (some_given e.volume.0 u)) (d ∙ sym (rw (f, l)))

      pub tally_other : within' ≡ within → kept' ≡ kept → used' ≡ used + 1 → (e.volume.0 ≡ n.0 → ⊥) → e.size ≤ size_limit → (e.volume.0 ≡ 0 → ⊥)
          → TallyLoop n ms es (i + 1) within' kept' used'
      tally_other a d c o w u = tally_under a c w u (rw (not_in_volume n e o) (omega (arith, d)))

      -- an entry of the volume
      ours : e.volume.0 ≡ n.0 → (e.volume.0 ≡ 0 → ⊥) → in_volume n e ≡ true
      ours q u = rw (← q, some_given e.volume.0 u) (eq-eqb e.volume.0 e.volume.0 refl)

      pub tally_adds : within' ≡ within → kept' ≡ kept + e.size → used' ≡ used + 1 → not b ≡ true → e.volume.0 ≡ n.0 → e.size ≤ size_limit
          → (e.volume.0 ≡ 0 → ⊥) → TallyLoop n ms es (i + 1) within' kept' used'
      tally_adds a d c m q w u = tally_under a c w u (rw (ours q u, m) d)

      pub tally_replaced : within' ≡ within → kept' ≡ kept → used' ≡ used + 1 → not b ≡ false → e.volume.0 ≡ n.0 → e.size ≤ size_limit
          → (e.volume.0 ≡ 0 → ⊥) → TallyLoop n ms es (i + 1) within' kept' used'
      tally_replaced a d c m q w u = tally_under a c w u (rw (ours q u, m) (omega (arith, d)))

      pub tally_free : within' ≡ within → kept' ≡ kept → used' ≡ used → e.volume.0 ≡ 0 → TallyLoop n ms es (i + 1) within' kept' used'
      unfolding entry_within
      tally_free a d c u =
          let o : left_size n b e ≡ 0 = free_adds n b e u in
          step (a ∙ rw u (sym (and-true within))) (rw u (omega (arith, c))) (omega (arith, d, o))

pub ruleset tallies = (tally_all, tally_left, tally_small, tally_used, tally_few, tally_start, rows_length, rules)

-- no puts replace nothing
no_marks : {A : Type 0} (p : A → Bool) (l : List A) → ((x : A) → p x ≡ false) → map p l ≡ replicate (length l) false
no_marks p [] f = refl
no_marks p (x ∷ xs) f = rw (f x, no_marks p xs f)

never : (n : VolumeNo) (e : Entry) → is_replaced n [] e ≡ false
unfolding is_replaced
never n e = and-false (in_volume n e)

none_replaced : (n : VolumeNo) (count : ℕ) (puts : List Put) (es : List Entry) → count ≡ 0 → length es ≡ 64
    → replicate 64 false ≡ map (is_replaced n (take count puts)) es
none_replaced n count puts es z l = rw z (rw l at (sym (no_marks (is_replaced n []) es (never n))))

-- what was read
module _ (n : VolumeNo) (count : ℕ) (puts : List Put) (es : List Entry) (ms : List Bool) (within : Bool) (kept used rows : ℕ)
    (a : within ≡ all_of entry_within es) (b : kept ≡ left_bytes n ms es) (c : kept ≤ 64 * 2 ^ 36) (d : used ≡ count_if used_entry es) where
  pub survey_none : count ≡ 0 → ms ≡ replicate 64 false → rows ≡ used → length es ≡ 64 → Surveyed n (take count puts) es ms within kept rows
  unfolding count_if
  survey_none z m q l = survey_of n count puts es ms within kept rows a b c (m ∙ none_replaced n count puts es z l) (rw z (omega (arith, d, q)))

  module _ (e : ms ≡ map (is_replaced n (take count puts)) es) (r : Bool) (g : r ≡ any_of is_set ms) where
    pub survey_some : (new : ℕ) → r ≡ true → new ≡ count_if (is_new_path n es) (take count puts) → rows ≡ used + new
        → Surveyed n (take count puts) es ms within kept rows
    survey_some new t f q = survey_of n count puts es ms within kept rows a b c e (omega (arith, d, f, q))

    pub survey_new : (new : ℕ) → r ≡ false → new ≡ min count 8 → rows ≡ used + new → length puts ≡ 8
        → Surveyed n (take count puts) es ms within kept rows
    survey_new new t f q l =
        let z = all_new n es (take count puts) (rw e at (sym g ∙ t)) in
        survey_of n count puts es ms within kept rows a b c e (omega (arith, d, f, q, z, length-take count puts))

-- the rows are a number of the machine
pub new_fits : (n : VolumeNo) (count : ℕ) (puts : List Put) (es : List Entry) (used new : ℕ) → new ≡ count_if (is_new_path n es) (take count puts)
    → length puts ≡ 8 → used ≤ 64 → Fits w64 (used + new)
new_fits n count puts es used new e l h = record { fits = omega (arith, count_le (is_new_path n es) (take count puts), length-take count puts) }

pub ruleset surveys = (survey_none, survey_some, survey_new, new_fits, rows_length, rules)
