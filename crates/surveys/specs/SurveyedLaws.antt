-- What a commit reads of the entries: the bytes that stay, and the puts of new paths. Assumes nothing.
use Rattle.std.specs.Prelude.{◌≡◌, refl, Bool, true, false, ◌&&◌, cond, not, List, [], ◌∷◌, map, ℕ, suc, ◌+◌, ◌*◌, ◌<◌, ◌≤◌, ◌^◌, length, take, get_or}
use Rattle.std.proofs.Common.{sym, ◌∙◌, arith, length-take}
use Rattle.std.proofs.lemmas.List.{length-map}
use Rattle.lists.specs.Lists.{all_of, any_of, count_if, keep, sum_of}
use Rattle.lists.specs.Bytes.{same_bytes}
use Rattle.lists.specs.ByteLaws.{same_symmetric}
use Rattle.lists.specs.BoolLaws.{and_left, and_right}
use Rattle.lists.specs.TestLaws.{none_at, at_none}
use Rattle.lists.specs.RowLaws.{sum_total, map_row}
use Rattle.lists.specs.SumLaws.{sum_keep}
use Rattle.text.specs.Text.{text_bytes}
use Rattle.rules.specs.declared.VolumeNo.{VolumeNo}
use Rattle.rules.specs.declared.Entry.{Entry}
use Rattle.rules.specs.declared.Put.{Put}
use Rattle.rules.specs.Tables.{used_entry, in_volume, is_entry, is_put}
use Rattle.rules.specs.Rent.{size_of}
use Rattle.rules.specs.Commit.{is_replaced, is_kept, is_new_path}
use Rattle.rows.specs.Blank.{blank_entry, blank_put}
use Rattle.entries.specs.Marks.{is_set}
use Rattle.surveys.specs.RowLimits.{entry_within}
use Rattle.surveys.specs.Survey.{kept_bytes, left_bytes, Surveyed}

-- the bytes of the entries that stay: what each entry adds
abbrev kept_size : VolumeNo → List Put → Entry → ℕ
kept_size n ps e = cond (is_kept n ps e) e.size 0

kept_sum : (n : VolumeNo) (ps : List Put) (es : List Entry) → sum_of (kept_size n ps) es ≡ kept_bytes n ps es
unfolding kept_bytes
kept_sum n ps es = sym (sum_keep size_of (kept_size n ps) (is_kept n ps) es (λ e. refl)) ∙ sum_total size_of (keep (is_kept n ps) es)

stays_unless : (a b : Bool) → (a && not (a && b)) ≡ (a && not b)
stays_unless true b = refl
stays_unless false b = refl

left_sum : (n : VolumeNo) (ps : List Put) (es : List Entry) → all_of entry_within es ≡ true → left_bytes n (map (is_replaced n ps) es) es ≡ sum_of (kept_size n ps) es
unfolding left_bytes sum_of is_replaced is_kept
left_sum n ps [] w = refl
left_sum n ps (e ∷ es) w =
    rw (
      and_left (entry_within e) (all_of entry_within es) w,
      stays_unless (in_volume n e) (any_of (is_put (text_bytes e.path)) ps),
      left_sum n ps es (and_right (entry_within e) (all_of entry_within es) w),
    )

pub left_kept : (n : VolumeNo) (ps : List Put) (es : List Entry) (ms : List Bool) → ms ≡ map (is_replaced n ps) es → all_of entry_within es ≡ true
    → left_bytes n ms es ≡ kept_bytes n ps es
left_kept n ps es ms e w = rw e (left_sum n ps es w ∙ kept_sum n ps es)

-- where no entry is replaced every put is new
other_path : (n : VolumeNo) (ps : List Put) (x : Entry) (j : ℕ) → j < length ps → is_replaced n ps x ≡ false
    → is_entry n (text_bytes (get_or ps j blank_put).path) x ≡ false
unfolding is_entry is_replaced is_put
other_path n ps x j h = go (in_volume n x)
  where
    go : (a : Bool) → (a && any_of (is_put (text_bytes x.path)) ps) ≡ false → (a && same_bytes (text_bytes x.path) (text_bytes (get_or ps j blank_put).path)) ≡ false
    go false r = refl
    go true r =
        same_symmetric (text_bytes x.path) (text_bytes (get_or ps j blank_put).path) ∙ none_at (is_put (text_bytes x.path)) ps r j h blank_put

count_each : {A : Type 0} (p : A → Bool) (l : List A) (d : A) → ((j : ℕ) → j < length l → p (get_or l j d) ≡ true) → count_if p l ≡ length l
unfolding count_if
count_each p [] d f = refl
count_each p (x ∷ xs) d f = rw (f 0 (omega arith)) (omega (arith, count_each p xs d (λ j h. f (suc j) (omega arith))))

module _ (n : VolumeNo) (es : List Entry) (ps : List Put) (e : any_of is_set (map (is_replaced n ps) es) ≡ false) where
  not_marked : (i : ℕ) → i < length es → is_replaced n ps (get_or es i blank_entry) ≡ false
  not_marked i k =
      sym (map_row (is_replaced n ps) es i blank_entry false k)
      ∙ none_at is_set (map (is_replaced n ps) es) e i (rw (length-map es (is_replaced n ps)) k) false

  new_one : (j : ℕ) → j < length ps → is_new_path n es (get_or ps j blank_put) ≡ true
  unfolding is_new_path
  new_one j h =
      rw (at_none (is_entry n (text_bytes (get_or ps j blank_put).path)) es blank_entry (λ i k. other_path n ps (get_or es i blank_entry) j h (not_marked i k)))

  pub all_new : count_if (is_new_path n es) ps ≡ length ps
  all_new = count_each (is_new_path n es) ps blank_put new_one

-- what was read
module _ (n : VolumeNo) (count : ℕ) (puts : List Put) (es : List Entry) (ms : List Bool) (within : Bool) (kept rows : ℕ)
    (a : within ≡ all_of entry_within es) (b : kept ≡ left_bytes n ms es) (c : kept ≤ 64 * 2 ^ 36) where
  pub survey_of : ms ≡ map (is_replaced n (take count puts)) es → rows ≡ count_if used_entry es + count_if (is_new_path n es) (take count puts)
      → Surveyed n (take count puts) es ms within kept rows
  survey_of e f =
      record { replaced = e; limits = a; left = b; stays = λ t. b ∙ left_kept n (take count puts) es ms e (sym a ∙ t); small = c; room = f }

-- the first rows of a table, as many as there are
pub part_size : {A : Type 0} (l : List A) (k n : ℕ) → k ≤ n → length l ≡ n → length (take k l) ≡ k
part_size l k n h e = omega (arith, length-take k l)
