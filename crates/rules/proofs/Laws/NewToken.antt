-- A new token, in the lowest free row and with the next number, leaves sound tables sound: the other tokens are found as before and have the
-- chains that they had. Assumes nothing.
use Rattle.std.specs.Prelude.{◌≡◌, Bool, true, false, ◌||◌, List, [], ℕ, suc, ◌+◌, ◌≤◌, ◌<◌, eqb, length, get_or, set}
use Rattle.std.proofs.Math.Path.{refl}
use Rattle.std.proofs.Common.{ap, sym, ◌∙◌, ⊎_elim, arith, le-leb, ltb-false, eqb-true, length-set, get_or-set_same, get_or-set_other}
use Rattle.std.proofs.lemmas.Bool.{eqb-false}
use Rattle.lists.specs.Lists.{hit, find, all_of, any_of}
use Rattle.lists.specs.BoolLaws.{and_left, and_right, pass_or_fail}
use Rattle.lists.specs.TestLaws.{all_at, any_at, all_weaker}
use Rattle.lists.specs.SearchLaws.{found_at, row_passes}
use Rattle.rules.specs.declared.VolumeNo.{VolumeNo}
use Rattle.rules.specs.declared.TokenNo.{TokenNo}
use Rattle.rules.specs.declared.Token.{Token}
use Rattle.rules.specs.declared.Tables.{Tables}
use Rattle.rules.specs.Limits.{last_number, deepest}
use Rattle.rules.specs.Fresh.{fresh_token}
use Rattle.rules.specs.Tables.{used_token, free_token, is_token, is_volume, with_tokens, with_last_token}
use Rattle.rules.specs.Scope.{ScopeArg, scope_fits, to_scope, on_hit, chain, depth}
use Rattle.rules.specs.Sound.{sound_token, volume_there, parent_there}
use Rattle.rules.specs.TokenCalls.{next_token, granted}
use Rattle.rules.proofs.Laws.MappedLaws.{map_hit, found_any}
use Rattle.rules.proofs.Laws.RoomLaws.{no_zero}
use Rattle.rules.proofs.Laws.SetLaws.{all_set, find_set}
use Rattle.rules.proofs.Laws.NumberLaws.{numbered_used, numbered_eq, numbered_other, found_passes, new_number}
use Rattle.rules.proofs.Laws.RowFacts.{token_facts, facts_token, count_facts, facts_counts}
use Rattle.rules.proofs.Laws.RowsKept.{given_le, le_given, token_grown}
use Rattle.rules.proofs.Laws.Invariant.{Whole, Keeps, keeps_on, counts_grow}
use Rattle.rules.proofs.Laws.ChainLaws.{chain_same}
use Rattle.rules.proofs.Laws.Family.{FamilyInOneVolume}
use Rattle.rules.proofs.Laws.TokensChange.{tokens_change}
use Rattle.rules.proofs.Laws.HeldText.{prefix_held}

-- a token's number is at most the last one, and so is its parent's
token_le : (t : Tables) (k : Token) → sound_token t k ≡ true → k.no.0 ≤ t.last_token
token_le t k h =
    ⊎_elim (λ u. given_le t.last_token k.no.0 (token_facts t k u h).numbered) (λ u. omega (arith, ltb-false 0 k.no.0 u))
    (pass_or_fail (used_token k))

there_le : (t : Tables) → all_of (sound_token t) t.tokens ≡ true → (n : TokenNo) → (eqb n.0 0 || any_of (is_token n) t.tokens) ≡ true → n.0 ≤ t.last_token
there_le t a n e = go (eqb n.0 0) refl e
  where
    go : (b : Bool) → eqb n.0 0 ≡ b → (b || any_of (is_token n) t.tokens) ≡ true → n.0 ≤ t.last_token
    go true q h = omega (arith, eqb-true n.0 0 q)
    go false q h =
        let f = any_at (is_token n) t.tokens fresh_token h in
        let k = get_or t.tokens f.0 fresh_token in
        omega (arith, token_le t k (all_at (sound_token t) t.tokens a f.0 f.1 fresh_token), numbered_eq n.0 k.no.0 f.2)

parent_le : (t : Tables) → all_of (sound_token t) t.tokens ≡ true → (k : Token) → used_token k ≡ true → sound_token t k ≡ true
    → k.parent.0 ≤ t.last_token
unfolding parent_there
parent_le t a k u h = there_le t a k.parent (token_facts t k u h).parent

-- a new token, in the place of a free row
module _ (t : Tables) (inv : Whole t) (room : t.last_token < last_number)
    (i : ℕ) (old : Token) (found : find free_token t.tokens ≡ hit i old) where
  abbrev n : ℕ
  n = t.last_token + 1

  -- the number is given first
  abbrev u : Tables
  u = with_last_token t n

  given_first : Keeps t u
  given_first =
      let f = count_facts t inv.parts.counts in
      counts_grow t t.clock t.last_volume n t.last_relay t.deposits inv (omega arith)
      (facts_counts u
      (record { clock = f.clock; deposits = f.deposits; volumes = f.volumes; tokens = le-leb n last_number (omega arith); relays = f.relays }))

  module _ (k : Token) (numbers : k.no.0 ≡ n) (above : k.parent.0 ≤ t.last_token) where
    abbrev ks : List Token
    ks = set t.tokens i k

    abbrev w : Tables
    w = with_tokens u ks

    -- other tokens are found as before, and have the chains that they had
    found_same : (x : TokenNo) → x.0 ≤ t.last_token → find (is_token x) ks ≡ find (is_token x) t.tokens
    found_same x h =
        let z : (get_or t.tokens i fresh_token).no.0 ≡ 0 =
        rw (found_at free_token t.tokens i old found fresh_token) (eqb-true old.no.0 0 (row_passes free_token t.tokens 0 i old found)) in
        find_set (is_token x) t.tokens 0 i k fresh_token (rw z (no_zero x.0)) (numbered_other x.0 k.no.0 (λ e. omega arith))

    chains_same : (m : ℕ) (x : Token) → x.parent.0 ≤ t.last_token → chain m ks x ≡ chain m t.tokens x
    chains_same =
        chain_same t.tokens ks (λ x. x.parent.0 ≤ t.last_token) (λ x h. found_same x.parent h)
        (λ x h j p e.
        parent_le t inv.parts.tokens p (numbered_used x.parent.0 p.no.0 (row_passes (is_token x.parent) t.tokens 0 j p e))
        (found_passes (is_token x.parent) (sound_token t) t.tokens j p inv.parts.tokens e))

    there_same : (x : Token) → x.parent.0 ≤ t.last_token → parent_there t x ≡ true → parent_there w x ≡ true
    unfolding parent_there
    there_same x h e = rw (found_any (λ (y : Token). y) (is_token x.parent) ks t.tokens (ap (map_hit (λ y. y)) (found_same x.parent h))) e

    old_sound : all_of (sound_token w) t.tokens ≡ true
    old_sound = all_weaker (sound_token t) (sound_token w) t.tokens one inv.parts.tokens
      where
        one : (x : Token) → sound_token t x ≡ true → sound_token w x ≡ true
        one x h =
            token_grown t w (omega arith) refl x
            (λ v. there_same x (parent_le t inv.parts.tokens x v h) (token_facts t x v h).parent)
            (λ v. ap length (chains_same (suc deepest) x (parent_le t inv.parts.tokens x v h)))
            h

    -- families stay in one volume
    one_volume : ((j : ℕ) (p : Token) → find (is_token k.parent) t.tokens ≡ hit j p → p.volume.0 ≡ k.volume.0) → FamilyInOneVolume t → FamilyInOneVolume w
    one_volume q kin j b v m p e = ⊎_elim new other (pass_or_fail (eqb j i))
      where
        inside : j < length t.tokens
        inside = rw (length-set t.tokens i k) at b

        new : eqb j i ≡ true → p.volume.0 ≡ (get_or ks j fresh_token).volume.0
        new s =
            let z : j ≡ i = eqb-true j i s in
            let r : get_or ks j fresh_token ≡ k = rw z (get_or-set_same t.tokens i k fresh_token (rw z at inside)) in
            rw r (q m p (sym (found_same k.parent above) ∙ rw r at e))

        other : eqb j i ≡ false → p.volume.0 ≡ (get_or ks j fresh_token).volume.0
        other s =
            let x = get_or t.tokens j fresh_token in
            let r : get_or ks j fresh_token ≡ x = get_or-set_other t.tokens i j k fresh_token (eqb-false j i s) in
            let y : used_token x ≡ true = rw r at v in
            let h = parent_le t inv.parts.tokens x y (all_at (sound_token t) t.tokens inv.parts.tokens j inside fresh_token) in
            rw r (kin j inside y m p (sym (found_same x.parent h) ∙ rw r at e))

    token_keeps : sound_token w k ≡ true → (FamilyInOneVolume t → FamilyInOneVolume w) → Keeps t w
    token_keeps s f =
        keeps_on given_first
        (tokens_change u ks given_first.whole (length-set t.tokens i k) (all_set (sound_token w) t.tokens i k old_sound s)
        (new_number (λ x. x.no.0) t.tokens i k inv.parts.token_numbers
        (λ j h. omega (arith, token_le t (get_or t.tokens j k) (all_at (sound_token t) t.tokens inv.parts.tokens j h k))))
        f)

-- what a new token needs of its parent: there is one and it is of the volume, or there is none; and the chain is not too long
pub record ParentFits (t : Tables) (v : VolumeNo) (parent : TokenNo) : Type 0 where
  pub there : (eqb parent.0 0 || any_of (is_token parent) t.tokens) ≡ true
  pub volume : (j : ℕ) (p : Token) → find (is_token parent) t.tokens ≡ hit j p → p.volume.0 ≡ v.0
  pub short : length (on_hit [] (chain deepest t.tokens) (find (is_token parent) t.tokens)) < deepest

module _ (t : Tables) (inv : Whole t) (v : VolumeNo) (parent : TokenNo) (a : ScopeArg) (fits : scope_fits a ≡ true)
    (place : any_of (is_volume v) t.volumes ≡ true) (family : ParentFits t v parent) where
  abbrev k : Token
  k = next_token t v parent (to_scope a)

  above : parent.0 ≤ t.last_token
  above = there_le t inv.parts.tokens parent family.there

  short : length (chain (suc deepest) t.tokens k) ≤ deepest
  unfolding chain
  short = family.short

  pub new_keeps : t.last_token < last_number → (i : ℕ) (old : Token) → find free_token t.tokens ≡ hit i old → Keeps t (granted t i k)
  unfolding volume_there scope_fits parent_there
  new_keeps room i old e =
      let u = w t inv room i old e k refl above in
      token_keeps t inv room i old e k refl above
      (facts_token u k
      (record {
        numbered = le_given (t.last_token + 1) (t.last_token + 1) (omega arith) (omega arith);
        prefix = prefix_held a.prefix (search (and_left, and_right));
        cap = search (and_left, and_right);
        window = search (and_left, and_right);
        volume = place;
        parent = there_same t inv room i old e k refl above k above family.there;
        chained = rw (chains_same t inv room i old e k refl above (suc deepest) k above) (le-leb (depth t.tokens k) deepest short);
        used = refl;
      }))
      (one_volume t inv room i old e k refl above family.volume)
