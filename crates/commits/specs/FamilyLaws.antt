-- The walk up a chain of parents that keeps each token on its way, and its loop. Assumes nothing.
use Rattle.std.specs.Prelude.{◌≡◌, refl, List, [], ◌∷◌, ◌++◌, map, ℕ, suc, ◌+◌, ◌-◌, ◌<◌, ◌≤◌, length, take, get_or, set, replicate, Option, Some, None}
use Rattle.std.proofs.Common.{sym, ◌∙◌, append_assoc, append-nil, add-one, arith, length-set, take-suc-set}
use Rattle.lists.specs.Lists.{first_at}
use Rattle.lists.specs.SearchLaws.{first_row_lem, first_miss}
use Rattle.lists.specs.RowLaws.{first_map}
use Rattle.lists.specs.AnswerLaws.{in_table}
use Rattle.rules.specs.declared.Token.{Token}
use Rattle.rules.specs.Tables as table
use Rattle.rules.specs.Scope.{family}
use Rattle.rows.specs.Links.{token_number}
use Rattle.rows.specs.ChainLaws.{numbered, upward, chain_up, up_none, up_step, up_end}

-- ns are the numbers of the table; n tokens were kept, and p is the parent of the last: with those from p on they are the family of k
pub record FamilyLoop (ns : List ℕ) (ts : List Token) (k : Token) (kept : List Token) (n p : ℕ) : Type 0 where
  pub listed : ns ≡ map token_number ts
  pub room : length kept ≡ 8
  pub few : n ≤ 8
  pub rest : take n kept ++ upward ts (8 - n) p ≡ family ts k

module _ (ns : List ℕ) (ts : List Token) (k : Token) where
  pub family_start : (p : ℕ) → ns ≡ map token_number ts → p ≡ k.parent.0 → FamilyLoop ns ts k (replicate 8 k) 1 p
  family_start p e q = record { listed = e; room = refl; few = omega arith; rest = rw q (sym (chain_up ts 7 k)) }

  module _ (kept : List Token) (n p : ℕ) (h : FamilyLoop ns ts k kept n p) where
    pub family_few : n ≤ 8
    family_few = h.few

    pub family_room : length kept ≡ 8
    family_room = h.room

    pub family_end : 8 ≤ n → take n kept ≡ family ts k
    family_end w =
        let q : 8 - n ≡ 0 = omega (arith, h.few) in
        sym (rw (q, up_end ts p) (append-nil (take n kept))) ∙ h.rest

    -- f is what the search of the numbers said
    module _ (f : Option ℕ) (e : f ≡ first_at (table.numbered p) 0 ns) where
      in_rows : f ≡ first_at (table.is_token (numbered p)) 0 ts
      in_rows = e ∙ rw h.listed (first_map token_number ts (table.numbered p) (table.is_token (numbered p)) (λ x. refl) 0)

      pub family_stop : f ≡ None → take n kept ≡ family ts k
      family_stop w =
          sym (rw (up_none ts (8 - n) p (first_miss (table.is_token (numbered p)) ts (sym in_rows ∙ w))) (append-nil (take n kept))) ∙ h.rest

      -- x is the row that was found, and m its parent
      pub family_next : (i m : ℕ) (d x : Token) → n < 8 → f ≡ Some i → x ≡ get_or ts i d → m ≡ x.parent.0 → FamilyLoop ns ts k (set kept n x) (n + 1) m
      family_next i m d x l w y g =
          let q : 8 - n ≡ suc (8 - (n + 1)) = omega arith in
          let u = up_step ts (8 - (n + 1)) p i x (first_row_lem (table.is_token (numbered p)) ts i (sym in_rows ∙ w) d ∙ rw y) in
          let r : take n kept ++ (x ∷ upward ts (8 - (n + 1)) x.parent.0) ≡ family ts k = rw (q, u) at h.rest in
          let o : n < length kept = omega (arith, h.room) in
          let z : take (n + 1) (set kept n x) ≡ take n kept ++ (x ∷ []) = rw (add-one n) (take-suc-set kept n x o) in
          record {
            listed = h.listed;
            room = length-set kept n x ∙ h.room;
            few = omega arith;
            rest = rw (g, z, append_assoc) r;
          }

      pub family_step : (i m : ℕ) (d : Token) → n < 8 → f ≡ Some i → m ≡ (get_or ts i d).parent.0 → FamilyLoop ns ts k (set kept n (get_or ts i d)) (n + 1) m
      family_step i m d l w g = family_next i m d (get_or ts i d) l w refl g

pub ruleset families = (family_step, family_stop, family_end, family_few, family_room, family_start, in_table)
