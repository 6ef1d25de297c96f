-- The loops over a table of kept tokens: their limits, a token's family, and the rows that are charged. Assumes nothing.
use Rattle.std.specs.Prelude.{Option, Some}
use mathlib.Core.Path.{◌≡◌, refl, sym, ◌∙◌}
use mathlib.Core.Bool.{Bool, true, false, cond}
use mathlib.Core.List.{List, map}
use Prim.Native.Nat.{ℕ, ◌+◌, ◌<◌, ◌≤◌, ◌^◌, min}
use native.Mathlib.Omega.{arith}
use borrow.Author.Tests.{leb-true, ne_eqb, lt-leb, le-leb}
use lib.ListN.{length, get_or, set, take, replicate, length-map, get_or-map}
use Rattle.lists.specs.Lists.{all_of, any_of, first_at}
use Rattle.lists.specs.TestLaws.{all_at, at_none}
use Rattle.lists.specs.LoopLaws.{AllLoop, all_failed, all_step}
use Rattle.lists.specs.AnswerLaws.{part_holds, in_table}
use Rattle.lists.specs.RowLaws.{all_map, map_after, map_row}
use Rattle.lists.specs.ByteLoopLaws.{FillLoop, fill_step_of, fill_same, fill_whole, length_mapped}
use Rattle.rules.specs.declared.Token.{Token}
use Rattle.rules.specs.Limits.{used_limit}
use Rattle.rules.specs.Tables.{numbered, is_token}
use Rattle.rules.specs.Commit.{charged}
use Rattle.rules.proofs.Laws.ApartLaws.{other_part}
use Rattle.surveys.specs.RowLimits.{token_within}
use Rattle.commits.specs.Charge.{numbers_of}
use Rattle.commits.specs.ChargeLaws.{member_of}
use Rattle.commits.specs.FamilyLaws.{FamilyLoop, family_start, family_next, family_stop, family_end, family_few, family_room}
use Rattle.kept.specs.declared.KeptToken.{KeptToken}
use Rattle.kept.specs.Kept.{token_in}
use Rattle.kept_tokens.specs.KeptTokens.{tokens_in, free_kept, kept_number, blank_kept}
use Rattle.kept_tokens.specs.KeptTokenLaws.{numbers_in}
use Rattle.kept_commits.specs.KeptLimits.{within_kept, used_kept}

-- ---- the limits

pub within_in : (j : List ℕ) (rows : List KeptToken) (r : Bool) → r ≡ all_of within_kept rows → r ≡ all_of token_within (tokens_in j rows)
unfolding within_kept token_within
within_in j rows r e = e ∙ sym (all_map (token_in j) rows token_within within_kept (λ x. refl))

module _ (rows : List KeptToken) (i : ℕ) where
  pub kept_over : used_limit < (get_or rows i blank_kept).used → ((get_or rows i blank_kept).no.0 ≡ 0 → ⊥) → i < 32 → AllLoop within_kept rows 32 i
      → false ≡ all_of within_kept rows
  unfolding within_kept
  kept_over w u k h =
      let e = get_or rows i blank_kept in
      all_failed blank_kept within_kept rows 32 i false h k (sym (rw (ne_eqb e.no.0 0 u, lt-leb e.used used_limit w))) refl

  pub kept_under : (get_or rows i blank_kept).used ≤ used_limit → i < 32 → AllLoop within_kept rows 32 i → AllLoop within_kept rows 32 (i + 1)
  unfolding within_kept
  kept_under w k h =
      let e = get_or rows i blank_kept in
      all_step blank_kept within_kept rows 32 i true h k (part_holds (free_kept e) _ (le-leb e.used used_limit w)) refl

  pub kept_free : (get_or rows i blank_kept).no.0 ≡ 0 → i < 32 → AllLoop within_kept rows 32 i → AllLoop within_kept rows 32 (i + 1)
  unfolding within_kept
  kept_free w k h = all_step blank_kept within_kept rows 32 i true h k (sym (rw w)) refl

-- ---- the family: ns are the numbers of the kept rows

module _ (j ns : List ℕ) (rows : List KeptToken) (k : Token) where
  pub kept_start : (p : ℕ) → ns ≡ map kept_number rows → p ≡ k.parent.0 → FamilyLoop ns (tokens_in j rows) k (replicate 8 k) 1 p
  kept_start p e q = family_start ns (tokens_in j rows) k p (numbers_in j rows ns e) q

  pub kept_next_lem : (kept : List Token) (n p : ℕ) (f : Option ℕ) (i m : ℕ) (d : KeptToken) (x : Token) → FamilyLoop ns (tokens_in j rows) k kept n p
      → f ≡ first_at (numbered p) 0 ns → n < 8 → f ≡ Some i → x ≡ token_in j (get_or rows i d) → m ≡ (get_or rows i d).parent.0
      → FamilyLoop ns (tokens_in j rows) k (set kept n x) (n + 1) m
  kept_next_lem kept n p f i m d x h e l w y g =
      family_next ns (tokens_in j rows) k kept n p h f e i m (token_in j d) x l w (y ∙ sym (get_or-map (token_in j) rows i d)) (rw y g)

pub ruleset kept-families = (kept_next_lem, family_stop, family_end, family_few, family_room, kept_start, in_table)

-- ---- the rows that are charged

-- a row after the bytes were charged to the tokens of these numbers
abbrev pub kept_by : List ℕ → ℕ → KeptToken → KeptToken
kept_by ns bytes k = cond (any_of (numbered k.no.0) ns) (used_kept k (k.used + bytes)) k

-- the loop over the token table: next is the table after row i, and b says whether the row's number is one of ns
module _ (rows : List KeptToken) (ns : List ℕ) (bytes i : ℕ) (out : List KeptToken) where
  abbrev Charging : ℕ → List KeptToken → Type 0
  Charging = FillLoop rows 0 (map (kept_by ns bytes) rows) 32

  module _ (next : List KeptToken) where
    stays : kept_by ns bytes (get_or rows i blank_kept) ≡ get_or rows i blank_kept → next ≡ out → i < 32 → Charging i out → Charging (i + 1) next
    stays e g w h =
        let f = kept_by ns bytes in
        rw g
        (fill_same rows (map f rows) 32 i out blank_kept h w
        (map_row f rows i blank_kept blank_kept (omega (arith, h.source, length-map rows f)) ∙ e))

    pub charge_free : (get_or rows i blank_kept).no.0 ≡ 0 → next ≡ out → i < 32 → Charging i out → Charging (i + 1) next
    charge_free e =
        let n : any_of (numbered (get_or rows i blank_kept).no.0) ns ≡ false = at_none _ ns 0 (λ j h. rw e) in
        stays (rw n)

    module _ (b : Bool) where
      pub charge_other : next ≡ out → b ≡ false → b ≡ any_of (numbered (get_or rows i blank_kept).no.0) ns → i < 32 → Charging i out → Charging (i + 1) next
      charge_other g t e = stays (rw (sym e ∙ t)) g

      pub charge_one : (x : KeptToken) → next ≡ set out i x → x ≡ used_kept (get_or rows i blank_kept) ((get_or rows i blank_kept).used + bytes) → b ≡ true
          → b ≡ any_of (numbered (get_or rows i blank_kept).no.0) ns → i < 32 → Charging i out → Charging (i + 1) next
      charge_one x g u t e w h = rw g (fill_step_of (kept_by ns bytes) blank_kept rows rows 32 i out x h w (u ∙ sym (rw (sym e ∙ t))))

  -- a row that was charged stands for the row charged
  module _ (j : List ℕ) (ks : List Token) (same : (x : KeptToken) → any_of (numbered x.no.0) ns ≡ any_of (is_token x.no) ks) where
    row_charged : (x : KeptToken) → token_in j (kept_by ns bytes x) ≡ charged ks bytes (token_in j x)
    unfolding charged
    row_charged x = rw (same x) (go (any_of (is_token x.no) ks))
      where
        go : (b : Bool) → token_in j (cond b (used_kept x (x.used + bytes)) x) ≡ cond b (token_in j (used_kept x (x.used + bytes))) (token_in j x)
        go true = refl
        go false = refl

  -- ks are the first k tokens of l
  pub charge_end : (j : List ℕ) (l ks : List Token) (k : ℕ) → 32 ≤ i → Charging i out → length rows ≡ 32 → ns ≡ numbers_of l (min k 8) → k ≤ 8 → take k l ≡ ks
      → tokens_in j out ≡ map (charged ks bytes) (tokens_in j rows)
  charge_end j l ks k w h e q u f =
      let m : min k 8 ≡ k = omega arith in
      let whole : out ≡ map (kept_by ns bytes) rows =
      fill_whole rows (map (kept_by ns bytes) rows) 32 i out h w e (length_mapped (kept_by ns bytes) rows 32 e) in
      let same : (x : KeptToken) → any_of (numbered x.no.0) ns ≡ any_of (is_token x.no) ks = λ x. rw (q, m, ← f) (member_of x.no l k) in
      rw whole
      (map_after (token_in j) (kept_by ns bytes) (λ x. charged ks bytes (token_in j x)) rows (row_charged j ks same)
      ∙ sym (map_after (charged ks bytes) (token_in j) (λ x. charged ks bytes (token_in j x)) rows (λ x. refl)))

-- a row in use of a table within the limits
pub kept_most : (l : List KeptToken) (i : ℕ) (d : KeptToken) → ((get_or l i d).no.0 ≡ 0 → ⊥) → all_of within_kept l ≡ true → length l ≡ 32 → i < 32
    → (get_or l i d).used ≤ 2 ^ 60
unfolding within_kept
kept_most l i d u w e h =
    let k = get_or l i d in
    leb-true k.used used_limit (other_part (free_kept k) _ (ne_eqb k.no.0 0 u) (all_at within_kept l w i (omega arith) d))
