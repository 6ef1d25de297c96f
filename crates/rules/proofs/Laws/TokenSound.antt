-- Grant, attenuate and revoke leave sound tables sound. Assumes nothing.
use Rattle.std.specs.Prelude.{◌≡◌, refl, true, false, not, List, [], ◌∷◌, ℕ, suc, ◌≤◌, eqb, leb, length, get_or}
use Rattle.std.proofs.Common.{ap, ◌∙◌, arith, leb-true, leb-false}
use Rattle.std.proofs.lemmas.Bool.{not-false}
use Rattle.lists.specs.Lists.{miss, hit, first_row, find, any_of}
use Rattle.lists.specs.BoolLaws.{and_right, and_both, not_pass, not_both}
use Rattle.lists.specs.TestLaws.{all_at}
use Rattle.lists.specs.SearchLaws.{row_passes, miss_hit}
use Rattle.rules.specs.declared.VolumeNo.{VolumeNo}
use Rattle.rules.specs.declared.TokenNo.{TokenNo}
use Rattle.rules.specs.declared.Volume.{Volume}
use Rattle.rules.specs.declared.Token.{Token}
use Rattle.rules.specs.declared.Tables.{Tables}
use Rattle.rules.specs.Limits.{last_number, deepest}
use Rattle.rules.specs.Fresh.{no_token, fresh_token}
use Rattle.rules.specs.Tables.{used_token, free_token, is_token, is_volume, volume_of, token_of}
use Rattle.rules.specs.Scope.{ScopeArg, scope_fits, to_scope, chain, family, depth, descends}
use Rattle.rules.specs.TokenCalls.{next_token, granted, revoked}
use Rattle.rules.specs.Sound.{sound_token, volume_there}
use Rattle.rules.proofs.Laws.NumberLaws.{numbered_used, numbered_eq, found_passes, found_some}
use Rattle.rules.proofs.Laws.RowFacts.{or_last, token_facts}
use Rattle.rules.proofs.Laws.Invariant.{Whole, Keeps}
use Rattle.rules.proofs.Laws.ChainLaws.{chain_longer, chain_ended, chain_parent}
use Rattle.rules.proofs.Laws.TokensGo.{ParentsStay}
use Rattle.rules.proofs.Laws.TokensChange.{tokens_leave}
use Rattle.rules.proofs.Laws.NewToken.{ParentFits, new_keeps}

-- a root has no parent
none_found : {A : Type 0} (l : List A) (j : ℕ) → first_row (λ x. false) j l ≡ miss
unfolding first_row
none_found [] j = refl
none_found (x ∷ xs) j = none_found xs (suc j)

root_fits : (t : Tables) (v : VolumeNo) → ParentFits t v no_token
root_fits t v = record {
  there = refl;
  volume = λ j p e. absurd (miss_hit (none_found t.tokens 0) e);
  short = rw (none_found t.tokens 0) (omega arith);
}

-- a child's chain is one longer than its parent's
child_fits : (t : Tables) (m : TokenNo) (i : ℕ) (p : Token) → token_of m t ≡ hit i p → leb deepest (depth t.tokens p) ≡ false
    → ParentFits t p.volume p.no
unfolding token_of
child_fits t m i p e d =
    let q : p.no ≡ m = ap (λ x. record { 0 = x }) (numbered_eq m.0 p.no.0 (row_passes (is_token m) t.tokens 0 i p e)) in
    let f : find (is_token p.no) t.tokens ≡ hit i p = ap (λ x. find (is_token x) t.tokens) q ∙ e in
    record {
      there = or_last (eqb p.no.0 0) (any_of (is_token p.no) t.tokens) (found_some (is_token p.no) t.tokens i p f);
      volume = λ j x g. let s : x ≡ p = cc in ap (λ (y : Token). y.volume.0) s;
      short = rw f (omega (arith, chain_longer t.tokens deepest p, leb-false deepest (depth t.tokens p) d));
    }

found_volume : (t : Tables) → Whole t → (m : TokenNo) (i : ℕ) (p : Token) → token_of m t ≡ hit i p → any_of (is_volume p.volume) t.volumes ≡ true
unfolding token_of volume_there
found_volume t inv m i p e =
    (token_facts t p (numbered_used m.0 p.no.0 (row_passes (is_token m) t.tokens 0 i p e))
    (found_passes (is_token m) (sound_token t) t.tokens i p inv.parts.tokens e)).volume

-- a volume that was found is in the table
volume_there_lem : (t : Tables) (n : VolumeNo) (i : ℕ) (v : Volume) → volume_of n t ≡ hit i v → any_of (is_volume v.no) t.volumes ≡ true
unfolding volume_of
volume_there_lem t n i v e =
    let q : v.no ≡ n = ap (λ y. record { 0 = y }) (numbered_eq n.0 v.no.0 (row_passes (is_volume n) t.volumes 0 i v e)) in
    ap (λ y. any_of (is_volume y) t.volumes) q ∙ found_some (is_volume n) t.volumes i v e

module _ (t : Tables) (inv : Whole t) (s : ScopeArg) (fits : not (scope_fits s) ≡ false) (room : leb last_number t.last_token ≡ false) (j : ℕ)
    (old : Token) (free : find free_token t.tokens ≡ hit j old) where
  pub grant_keeps : (n : VolumeNo) (i : ℕ) (v : Volume) → volume_of n t ≡ hit i v → Keeps t (granted t j (next_token t v.no no_token (to_scope s)))
  grant_keeps n i v e =
      new_keeps t inv v.no no_token s (not-false (scope_fits s) fits) (volume_there_lem t n i v e) (root_fits t v.no)
      (leb-false last_number t.last_token room) j old free

  pub attenuate_keeps : (n : TokenNo) (i : ℕ) (k : Token) → token_of n t ≡ hit i k → leb deepest (depth t.tokens k) ≡ false
      → Keeps t (granted t j (next_token t k.volume k.no (to_scope s)))
  attenuate_keeps n i k e d =
      new_keeps t inv k.volume k.no s (not-false (scope_fits s) fits) (found_volume t inv n i k e) (child_fits t n i k e d)
      (leb-false last_number t.last_token room) j old free

-- revoke: where the token stands in the chain of a parent, it stands in the child's too
revoke_stay : (t : Tables) → Whole t → (m : TokenNo) → ParentsStay (descends t.tokens m) t.tokens
unfolding descends
revoke_stay t inv m j b w g i p e =
    not_pass (descends t.tokens m p)
    (λ h.
    let k = get_or t.tokens j fresh_token in
    let d = leb-true (depth t.tokens k) deepest (token_facts t k w (all_at (sound_token t) t.tokens inv.parts.tokens j b fresh_token)).chained in
    let short : length (k ∷ chain 8 t.tokens p) ≤ 8 = rw (chain_parent t.tokens 8 k i p e) at d in
    let same : chain 8 t.tokens p ≡ chain 7 t.tokens p = chain_ended t.tokens 7 p (omega arith) in
    let stands : any_of (is_token m) (chain 7 t.tokens p) ≡ true = rw same at (and_right (used_token p) (any_of (is_token m) (family t.tokens p)) h) in
    let too : any_of (is_token m) (chain 8 t.tokens k) ≡ true =
    rw (chain_parent t.tokens 7 k i p e) (or_last (is_token m k) (any_of (is_token m) (chain 7 t.tokens p)) stands) in
    not_both (and_both w too) g)

pub revoke_keeps : (t : Tables) → Whole t → (k : Token) → Keeps t (revoked t k)
revoke_keeps t inv k = tokens_leave t (descends t.tokens k.no) (revoke_stay t inv k.no) inv
