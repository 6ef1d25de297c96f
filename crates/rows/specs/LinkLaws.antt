-- The chain in the lists of the numbers and of the parents is the chain in the table, and the loop that counts it. Assumes nothing.
use Rattle.std.specs.Prelude.{◌≡◌, List, [], ◌∷◌, map, length, get_or, Option, Some, None}
use Rattle.std.proofs.Math.Path.{refl}
use Rattle.std.proofs.Common.{sym, ◌∙◌, arith}
use Prim.Native.Nat.{ℕ, zero, suc, ◌+◌, ◌-◌, ◌<◌, ◌≤◌}
use Rattle.std.proofs.lemmas.List.{length-map}
use Rattle.lists.specs.Lists.{first_at}
use Rattle.lists.specs.SearchLaws.{first_row_lem, first_miss, first_below}
use Rattle.lists.specs.RowLaws.{map_row, first_map}
use Rattle.lists.specs.AnswerLaws.{in_table}
use Rattle.rules.specs.declared.Token.{Token}
use Rattle.rules.specs.Tables.{is_token, numbered}
use Rattle.rules.specs.Scope.{depth}
use Rattle.rows.specs.Blank.{blank_token}
use Rattle.rows.specs.Links.{token_number, token_parent, chain_in}
use Rattle.rows.specs.ChainLaws as up

-- one step in the lists, by what the search for the number said
module _ (ns ps : List ℕ) (n : ℕ) where
  pub link_none : (m : ℕ) → first_at (numbered n) 0 ns ≡ None → chain_in ns ps m n ≡ []
  unfolding chain_in
  link_none zero e = refl
  link_none (suc m) e = rw e

  pub link_step : (m i : ℕ) → first_at (numbered n) 0 ns ≡ Some i → chain_in ns ps (suc m) n ≡ get_or ns i 0 ∷ chain_in ns ps m (get_or ps i 0)
  unfolding chain_in
  link_step m i e = rw e

pub link_end : (ns ps : List ℕ) (n : ℕ) → chain_in ns ps 0 n ≡ []
unfolding chain_in
link_end ns ps n = refl

-- the numbers of the chain in the table
module _ (ts : List Token) where
  linked_by : (m n : ℕ) (f : Option ℕ) → first_at (is_token (up.numbered n)) 0 ts ≡ f
      → ((p : ℕ) → chain_in (map token_number ts) (map token_parent ts) m p ≡ map token_number (up.upward ts m p))
      → chain_in (map token_number ts) (map token_parent ts) (suc m) n ≡ map token_number (up.upward ts (suc m) n)
  linked_by m n None e f =
      rw (up.up_none ts (suc m) n (first_miss (is_token (up.numbered n)) ts e))
      (link_none (map token_number ts) (map token_parent ts) n (suc m) (first_map token_number ts (numbered n) (is_token (up.numbered n)) (λ x. refl) 0 ∙ e))
  linked_by m n (Some i) e f =
      let w : i < length ts = omega (arith, first_below (is_token (up.numbered n)) ts 0 i e) in
      rw (up.up_step ts m n i (get_or ts i blank_token) (first_row_lem (is_token (up.numbered n)) ts i e blank_token))
      (link_step (map token_number ts) (map token_parent ts) n m i (first_map token_number ts (numbered n) (is_token (up.numbered n)) (λ x. refl) 0 ∙ e)
      ∙ rw (map_row token_number ts i blank_token 0 w, map_row token_parent ts i blank_token 0 w, f (get_or ts i blank_token).parent.0))

  pub linked : (m n : ℕ) → chain_in (map token_number ts) (map token_parent ts) m n ≡ map token_number (up.upward ts m n)
  linked zero n = rw (up.up_end ts n) (link_end (map token_number ts) (map token_parent ts) n)
  linked (suc m) n = linked_by m n (first_at (is_token (up.numbered n)) 0 ts) refl (linked m)

-- so its length says the depth: r is what was counted
pub depth_linked : (ts : List Token) (k : Token) (ns ps : List ℕ) (r : ℕ) → r ≡ 1 + length (chain_in ns ps 8 k.parent.0) → ns ≡ map token_number ts
    → ps ≡ map token_parent ts → r ≡ depth ts k
depth_linked ts k ns ps r h e f =
    let c : length (chain_in ns ps 8 k.parent.0) ≡ length (up.upward ts 8 k.parent.0) =
    rw (e, f, linked ts 8 k.parent.0) (length-map (up.upward ts 8 k.parent.0) token_number) in
    rw (up.chain_up ts 8 k) (omega (arith, h, c))

-- n numbers were counted, and p is the parent of the last: with those from p on they are the chain that goes on from s
pub record CountLoop (ns ps : List ℕ) (s n p : ℕ) : Type 0 where
  pub few : n ≤ 9
  pub rest : 1 + length (chain_in ns ps 8 s) ≡ n + length (chain_in ns ps (9 - n) p)

module _ (ns ps : List ℕ) (s : ℕ) where
  pub count_start : CountLoop ns ps s 1 s
  count_start = record { few = omega arith; rest = refl }

  module _ (n p : ℕ) (h : CountLoop ns ps s n p) where
    pub count_end : 9 ≤ n → n ≡ 1 + length (chain_in ns ps 8 s)
    count_end w =
        let q : n ≡ 9 = omega (arith, h.few) in
        let r = rw (q, link_end ns ps p) at h.rest in
        omega (arith, r)

    module _ (f : Option ℕ) (e : f ≡ first_at (numbered p) 0 ns) where
      pub count_stop : f ≡ None → n ≡ 1 + length (chain_in ns ps 8 s)
      count_stop w =
          let r = rw (link_none ns ps p (9 - n) (sym e ∙ w)) at h.rest in
          omega (arith, r)

      pub count_step : (i : ℕ) → n < 9 → f ≡ Some i → CountLoop ns ps s (n + 1) (get_or ps i 0)
      count_step i k w =
          let q : 9 - n ≡ suc (9 - (n + 1)) = omega arith in
          let r = rw (q, link_step ns ps p (9 - (n + 1)) i (sym e ∙ w)) at h.rest in
          record { few = omega arith; rest = omega (arith, r) }

pub ruleset counts = (count_stop, count_step, count_end, count_start, in_table)
