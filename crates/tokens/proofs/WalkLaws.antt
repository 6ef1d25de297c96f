-- The walk up a chain of parents that looks for one token, and its loop; and the loop that makes the set of the rows by it. Assumes nothing.
use Rattle.std.specs.Prelude.{Option, Some, None}
use mathlib.Core.Path.{◌≡◌, refl, sym, ◌∙◌}
use mathlib.Core.Bool.{Bool, true, false, ◌||◌}
use mathlib.Core.List.{List, map}
use Prim.Native.Nat.{ℕ, suc, ◌+◌, ◌-◌, ◌*◌, ◌%◌, ◌^◌, ◌<◌, ◌≤◌}
use native.Mathlib.Omega.{arith}
use borrow.Author.Rules.{rules}
use lib.Bits.{bit_or}
use lib.ListN.{length, get_or, take, get_or-map}
use Rattle.lists.specs.Lists.{first_at, any_of, bit_set}
use Rattle.lists.specs.BitLaws.{up_none, up_here, up_on, up_end, up_lt, or_row}
use Rattle.lists.specs.RowLaws.{any_map}
use Rattle.lists.specs.AnswerLaws.{in_table, part_holds}
use Rattle.rules.specs.declared.TokenNo.{TokenNo}
use Rattle.rules.specs.declared.Token.{Token}
use Rattle.rules.specs.Tables.{numbered, is_token}
use Rattle.rules.specs.Scope.{descends}
use Rattle.rows.specs.Blank.{blank_token}
use Rattle.rows.specs.Links.{token_number, token_parent, chain_in}
use Rattle.rows.specs.LinkLaws.{link_none, link_step, link_end, linked}
use Rattle.rows.specs.ChainLaws.{upward, chain_up}
use Rattle.tokens.specs.Descends.{in_chain, descends_in}

-- n is among the numbers from p on up, at most m of them
abbrev pub seen : List ℕ → List ℕ → ℕ → ℕ → ℕ → Bool
seen ns ps n m p = any_of (numbered n) (chain_in ns ps m p)

module _ (ns ps : List ℕ) (n : ℕ) where
  seen_none : (m p : ℕ) → first_at (numbered p) 0 ns ≡ None → seen ns ps n m p ≡ false
  seen_none m p e = rw (link_none ns ps p m e)

  seen_step : (m p i : ℕ) → first_at (numbered p) 0 ns ≡ Some i → seen ns ps n (suc m) p ≡ (numbered n (get_or ns i 0) || seen ns ps n m (get_or ps i 0))
  seen_step m p i e = rw (link_step ns ps p m i e)

  seen_end : (p : ℕ) → seen ns ps n 0 p ≡ false
  seen_end p = rw (link_end ns ps p)

-- c tokens were looked at, none of them n, and p is the parent of the last: what is left of the walk that goes on from s
pub record WalkLoop (ns ps : List ℕ) (n s c p : ℕ) : Type 0 where
  pub few : c ≤ 8
  pub rest : seen ns ps n 7 s ≡ seen ns ps n (8 - c) p

-- a says whether the number that the walk starts from, k, is n
module _ (ns ps : List ℕ) (n s k : ℕ) (a : Bool) (first : a ≡ numbered n k) where
  pub walk_here : a ≡ true → true ≡ in_chain ns ps n k s
  unfolding in_chain
  walk_here e = sym (rw (sym first ∙ e))

  module _ (other : a ≡ false) (c p : ℕ) (h : WalkLoop ns ps n s c p) where
    went : seen ns ps n (8 - c) p ≡ false → false ≡ in_chain ns ps n k s
    unfolding in_chain
    went e = sym (rw (sym first ∙ other) (h.rest ∙ e))

    pub walk_end : 8 ≤ c → false ≡ in_chain ns ps n k s
    unfolding in_chain
    walk_end w = let q : 8 - c ≡ 0 = omega arith in went (rw q (seen_end ns ps n p))

    pub walk_stop : (f : Option ℕ) → f ≡ first_at (numbered p) 0 ns → f ≡ None → false ≡ in_chain ns ps n k s
    unfolding in_chain
    walk_stop f e w = went (seen_none ns ps n (8 - c) p (sym e ∙ w))

-- b says whether the number at i, the next one, is n
module _ (ns ps : List ℕ) (n s c p : ℕ) (h : WalkLoop ns ps n s c p) (l : c < 8) (f : Option ℕ) (e : f ≡ first_at (numbered p) 0 ns) (i : ℕ) (w : f ≡ Some i) (b : Bool)
    (next : b ≡ numbered n (get_or ns i 0)) where
  walked : seen ns ps n 7 s ≡ (b || seen ns ps n (8 - (c + 1)) (get_or ps i 0))
  walked = let q : 8 - c ≡ suc (8 - (c + 1)) = omega arith in h.rest ∙ rw (q, next) (seen_step ns ps n (8 - (c + 1)) p i (sym e ∙ w))

  pub walk_found : (k : ℕ) → b ≡ true → true ≡ in_chain ns ps n k s
  unfolding in_chain
  walk_found k t = part_holds (numbered n k) (seen ns ps n 7 s) (walked ∙ rw t)

  pub walk_step : b ≡ false → WalkLoop ns ps n s (c + 1) (get_or ps i 0)
  walk_step t = record { few = omega arith; rest = walked ∙ rw t }

pub walk_start : (ns ps : List ℕ) (n s : ℕ) → WalkLoop ns ps n s 1 s
walk_start ns ps n s = record { few = omega arith; rest = refl }

pub ruleset walks = (walk_here, walk_stop, walk_found, walk_step, walk_end, walk_start, in_table)

-- so it says whether the token k of the table descends from n: b is what the walk said
pub descends_linked : (ts : List Token) (n : TokenNo) (k : Token) (b : Bool) (ns ps : List ℕ)
    → b ≡ descends_in ns ps n.0 k.no.0 k.parent.0 → ns ≡ map token_number ts → ps ≡ map token_parent ts
    → b ≡ descends ts n k
unfolding descends descends_in in_chain
descends_linked ts n k b ns ps h e f =
    h
    ∙ rw
    (e, f, linked ts 7 k.parent.0, any_map token_number (upward ts 7 k.parent.0) (numbered n.0) (is_token n) (λ x. refl), chain_up ts 7 k)

-- the loop that makes the set of the rows which go: the lists are those of a table of 32 rows, and i of these were looked at
pub record DescendantsLoop (ns ps : List ℕ) (n : TokenNo) (i s : ℕ) : Type 0 where
  pub place : i ≤ 32
  pub made : (ts : List Token) → length ts ≡ 32 → ns ≡ map token_number ts → ps ≡ map token_parent ts → s ≡ bit_set (descends ts n) (take i ts)

module _ (ns ps : List ℕ) (n : TokenNo) where
  pub descendants_start : DescendantsLoop ns ps n 0 0
  descendants_start = record { place = omega arith; made = λ ts l e f. up_none (descends ts n) ts }

  module _ (i s : ℕ) (h : DescendantsLoop ns ps n i s) where
    pub descendants_end : (ts : List Token) → 32 ≤ i → length ts ≡ 32 → ns ≡ map token_number ts → ps ≡ map token_parent ts → s ≡ bit_set (descends ts n) ts
    descendants_end ts k l e f = up_end (descends ts n) ts i (omega (arith, l)) (h.made ts l e f)

    -- b is what the walk said of row i, and next the set after it
    module _ (b : Bool) (next : ℕ) (k : i < 32) (w : b ≡ descends_in ns ps n.0 (get_or ns i 0) (get_or ps i 0)) where
      told : (ts : List Token) → ns ≡ map token_number ts → ps ≡ map token_parent ts → b ≡ descends ts n (get_or ts i blank_token)
      told ts e f =
          let x : get_or ns i 0 ≡ (get_or ts i blank_token).no.0 = rw e (get_or-map token_number ts i blank_token) in
          let y : get_or ps i 0 ≡ (get_or ts i blank_token).parent.0 = rw f (get_or-map token_parent ts i blank_token) in
          descends_linked ts n (get_or ts i blank_token) b ns ps (rw (x, y) at w) e f

      pub descendants_adds : b ≡ true → next ≡ bit_or s (1 * 2 ^ i % 2 ^ 32) → DescendantsLoop ns ps n (i + 1) next
      descendants_adds t q =
          record {
            place = omega arith;
            made = λ ts l e f.
                let m = h.made ts l e f in
                let below : s < 2 ^ i = rw m (up_lt (descends ts n) ts i (omega (arith, l, h.place))) in
                q ∙ or_row 32 s i below k ∙ sym (up_here (descends ts n) ts blank_token i (omega (arith, l)) (told ts e f) m t);
          }

      pub descendants_skips : b ≡ false → next ≡ s → DescendantsLoop ns ps n (i + 1) next
      descendants_skips t q =
          record {
            place = omega arith;
            made = λ ts l e f.
                q ∙ sym (up_on (descends ts n) ts blank_token i (omega (arith, l)) (told ts e f) (h.made ts l e f) t);
          }

pub ruleset descendant-sets = (descendants_adds, descendants_skips, descendants_end, descendants_start, rules)
