-- A token that is charged, by the numbers of its family. Assumes nothing.
use mathlib.Core.Path.{◌≡◌, sym, ◌∙◌}
use mathlib.Core.Bool.{Bool, true, false, cond}
use mathlib.Core.List.{List, map}
use Prim.Native.Nat.{ℕ, ◌+◌, ◌<◌, ◌≤◌, ◌^◌, min}
use native.Mathlib.Omega.{arith}
use borrow.Author.Tests.{leb-true, ne_eqb}
use borrow.Author.Rules.{rules}
use lib.ListN.{length, get_or, set, take, replicate, length-map}
use Rattle.lists.specs.Lists.{all_of, any_of}
use Rattle.lists.specs.TestLaws.{all_at, at_none}
use Rattle.lists.specs.LoopLaws.{AnyLoop, any_found_part, any_step_part, any_none_all, any_start, sizes}
use Rattle.lists.specs.RowLaws.{rows_length, map_row}
use Rattle.lists.specs.ByteLoopLaws.{FillLoop, fill_start, fill_step_of, fill_same, fill_whole, fill_end, fill_size, length_mapped}
use Rattle.rules.specs.declared.Token.{Token}
use Rattle.rules.specs.Limits.{used_limit}
use Rattle.rules.specs.Tables.{free_token, numbered, with_used}
use Rattle.rules.proofs.Laws.ApartLaws.{other_part}
use Rattle.rules.specs.Commit.{charged}
use Rattle.rows.specs.Blank.{blank_token}
use Rattle.rows.specs.Links.{token_number}
use Rattle.commits.specs.Charge.{numbers_of}
use Rattle.commits.specs.ChargeLaws.{member_of, map_alike}
use Rattle.surveys.specs.RowLimits.{token_within}
use Rattle.surveys.specs.SurveyedLaws.{part_size}

-- a row after the bytes were charged to the tokens of these numbers
abbrev pub charged_by : List ℕ → ℕ → Token → Token
charged_by ns bytes k = cond (any_of (numbered k.no.0) ns) (with_used k (k.used + bytes)) k

charged_alike : (l : List Token) (k bytes : ℕ) (x : Token) → charged_by (numbers_of l k) bytes x ≡ charged (take k l) bytes x
unfolding charged
charged_alike l k bytes x = rw (member_of x.no l k)

-- the loop over the token table: next is the table after row i, and b says whether the row's number is one of ns
module _ (rows : List Token) (ns : List ℕ) (bytes i : ℕ) (out : List Token) where
  abbrev Charging : ℕ → List Token → Type 0
  Charging = FillLoop rows 0 (map (charged_by ns bytes) rows) 32

  module _ (next : List Token) where
    stays : charged_by ns bytes (get_or rows i blank_token) ≡ get_or rows i blank_token → next ≡ out → i < 32 → Charging i out → Charging (i + 1) next
    stays e g w h =
        let f = charged_by ns bytes in
        rw g
        (fill_same rows (map f rows) 32 i out blank_token h w
        (map_row f rows i blank_token blank_token (omega (arith, h.source, length-map rows f)) ∙ e))

    pub charge_free : (get_or rows i blank_token).no.0 ≡ 0 → next ≡ out → i < 32 → Charging i out → Charging (i + 1) next
    charge_free e =
        let n : any_of (numbered (get_or rows i blank_token).no.0) ns ≡ false = at_none _ ns 0 (λ j h. rw e) in
        stays (rw n)

    module _ (b : Bool) where
      pub charge_other : next ≡ out → b ≡ false → b ≡ any_of (numbered (get_or rows i blank_token).no.0) ns → i < 32 → Charging i out → Charging (i + 1) next
      charge_other g t e = stays (rw (sym e ∙ t)) g

      pub charge_one : (x : Token) → next ≡ set out i x → x ≡ with_used (get_or rows i blank_token) ((get_or rows i blank_token).used + bytes) → b ≡ true
          → b ≡ any_of (numbered (get_or rows i blank_token).no.0) ns → i < 32 → Charging i out → Charging (i + 1) next
      charge_one x g u t e w h = rw g (fill_step_of (charged_by ns bytes) blank_token rows rows 32 i out x h w (u ∙ sym (rw (sym e ∙ t))))

  -- ks are the first k tokens of l
  pub charge_end : (l ks : List Token) (k : ℕ) → 32 ≤ i → Charging i out → length rows ≡ 32 → ns ≡ numbers_of l (min k 8) → k ≤ 8 → take k l ≡ ks
      → out ≡ map (charged ks bytes) rows
  charge_end l ks k w h e q u f =
      let m : min k 8 ≡ k = omega arith in
      fill_whole rows (map (charged_by ns bytes) rows) 32 i out h w e (length_mapped (charged_by ns bytes) rows 32 e)
      ∙ rw (q, m, ← f) (map_alike (charged_by (numbers_of l k) bytes) (charged (take k l) bytes) rows (charged_alike l k bytes))

-- a row in use of a table within the limits
pub token_most : (l : List Token) (i : ℕ) (d : Token) → ((get_or l i d).no.0 ≡ 0 → ⊥) → all_of token_within l ≡ true → length l ≡ 32 → i < 32
    → (get_or l i d).used ≤ 2 ^ 60
unfolding token_within
token_most l i d u w e h =
    let k = get_or l i d in
    leb-true k.used used_limit (other_part (free_token k) _ (ne_eqb k.no.0 0 u) (all_at token_within l w i (omega arith) d))

-- the loop that stores the numbers
pub least_part : {A B : Type 0} (f : A → B) (l : List A) (k n : ℕ) → k ≤ n → length l ≡ n → k ≤ length (map f l)
least_part f l k n h e = omega (arith, length-map l f)

-- k is as many of the m tokens as there are places
pub few_places : (k m : ℕ) → k ≡ min m 8 → k ≤ 8
few_places k m e = omega (arith, e)

pub numbers_end : (l : List Token) (k m i : ℕ) (out : List ℕ) → FillLoop (replicate 8 0) 0 (map token_number l) k i out → k ≤ i → k ≡ min m 8
    → out ≡ numbers_of l (min m 8)
unfolding numbers_of
numbers_end l k m i out h w e = rw (← e) (fill_end (replicate 8 0) 0 (map token_number l) k i out h w)

pub ruleset numbering = (numbers_end, few_places, fill_size, fill_start, least_part, rows_length, rules)

-- some row of the first k passes: from the first row on
pub any_found_first : {A : Type 0} (d : A) (p : A → Bool) (l : List A) (k n i : ℕ) (b : Bool) → AnyLoop p (take k l) 0 n i → i < n → b ≡ p (get_or l i d) → b ≡ true
    → true ≡ any_of p (take k l)
any_found_first d p l k n i b = any_found_part d p l k 0 n i b

pub ruleset anys-first = (any_found_first, any_step_part, any_none_all, any_start, part_size, sizes)
