-- Tokens go, and with each that stays its parent stays: the rest of the tables stays sound, and families stay in one volume. Assumes nothing.
use Rattle.std.specs.Prelude.{◌≡◌, Bool, true, false, cond, length, get_or}
use Rattle.std.proofs.Math.Path.{refl, ap}
use Rattle.std.proofs.Common.{sym, ◌∙◌, true≢false}
use Rattle.std.proofs.Math.Logic.{⊎_elim}
use mathlib.Core.List.{List, [], ◌∷◌}
use Prim.Native.Nat.{ℕ, zero, suc, ◌<◌}
use Rattle.lists.specs.Lists.{Hit, miss, hit, find}
use Rattle.lists.specs.BoolLaws.{pass_or_fail}
use Rattle.lists.specs.SearchLaws.{found_below, found_at, row_passes}
use Rattle.lists.specs.TestLaws.{all_at, all_weaker}
use Rattle.rules.specs.declared.TokenNo.{TokenNo}
use Rattle.rules.specs.declared.Token.{Token}
use Rattle.rules.specs.declared.Tables.{Tables}
use Rattle.rules.specs.Limits.{deepest}
use Rattle.rules.specs.Fresh.{fresh_token}
use Rattle.rules.specs.Tables.{used_token, is_token, with_tokens, cleared}
use Rattle.rules.specs.Scope.{on_hit, chain}
use Rattle.rules.specs.Sound.{sound_entry, sound_token, sound_relay, parent_there, volume_there, same_token}
use Rattle.rules.proofs.Laws.RowFacts.{token_facts, facts_token, free_token_lem}
use Rattle.rules.proofs.Laws.NumberLaws.{numbered_used}
use Rattle.rules.proofs.Laws.RestParts.{Rest}
use Rattle.rules.proofs.Laws.MappedLaws.{same_any}
use Rattle.rules.proofs.Laws.ClearedLaws.{all_cleared, clash_cleared, found_cleared, miss_cleared, length_cleared, cleared_at}
use Rattle.rules.proofs.Laws.LastingLaws.{entry_same}
use Rattle.rules.proofs.Laws.RoomLaws.{no_zero}
use Rattle.rules.proofs.Laws.Family.{FamilyInOneVolume}

-- a token found by its number is in use
pub found_used : (n : TokenNo) (ks : List Token) (i : ℕ) (k : Token) → find (is_token n) ks ≡ hit i k → used_token k ≡ true
found_used n ks i k e = numbered_used n.0 k.no.0 (row_passes (is_token n) ks 0 i k e)

-- the token in a row, and what is found of a token's parent
abbrev token_at : List Token → ℕ → Token
token_at ks j = get_or ks j fresh_token

abbrev parent_in : List Token → Token → Hit Token
parent_in ks k = find (is_token k.parent) ks

-- the parent of each token that stays, stays
abbrev pub ParentsStay : (Token → Bool) → List Token → Type 0
ParentsStay gone ks = (j : ℕ) → j < length ks → used_token (token_at ks j) ≡ true → gone (token_at ks j) ≡ false
    → (i : ℕ) (k : Token) → parent_in ks (token_at ks j) ≡ hit i k → gone k ≡ false

module _ (gone : Token → Bool) (ks : List Token) (stay : ParentsStay gone ks) where
  -- what is found of a parent
  found_stays : (j : ℕ) → j < length ks → used_token (token_at ks j) ≡ true → gone (token_at ks j) ≡ false
      → (h : Hit Token) → parent_in ks (token_at ks j) ≡ h
      → parent_in (cleared gone fresh_token ks) (token_at ks j) ≡ h
  found_stays j b w n miss e =
      miss_cleared gone fresh_token (is_token (token_at ks j).parent) 0 ks (no_zero (token_at ks j).parent.0) e
  found_stays j b w n (hit i k) e =
      found_cleared gone fresh_token (is_token (token_at ks j).parent) 0 i ks k (no_zero (token_at ks j).parent.0) e
      (stay j b w n i k e)

  parent_stays : (j : ℕ) → j < length ks → used_token (token_at ks j) ≡ true → gone (token_at ks j) ≡ false
      → parent_in (cleared gone fresh_token ks) (token_at ks j) ≡ parent_in ks (token_at ks j)
  parent_stays j b w n = found_stays j b w n (parent_in ks (token_at ks j)) refl

  -- chains stay as they are
  chain_step : (n j : ℕ) → j < length ks → used_token (token_at ks j) ≡ true → gone (token_at ks j) ≡ false
      → ((i : ℕ) → i < length ks → used_token (token_at ks i) ≡ true → gone (token_at ks i) ≡ false
      → chain n (cleared gone fresh_token ks) (token_at ks i) ≡ chain n ks (token_at ks i))
      → (h : Hit Token) → parent_in ks (token_at ks j) ≡ h
      → on_hit [] (chain n (cleared gone fresh_token ks)) h ≡ on_hit [] (chain n ks) h
  chain_step n j b w g rest miss e = refl
  chain_step n j b w g rest (hit i k) e =
      let n = (token_at ks j).parent in
      let q = found_at (is_token n) ks i k e fresh_token in
      rw q at (rest i (found_below (is_token n) ks i k e) (rw q (found_used n ks i k e)) (rw q (stay j b w g i k e)))

  chain_stays : (n j : ℕ) → j < length ks → used_token (token_at ks j) ≡ true → gone (token_at ks j) ≡ false
      → chain n (cleared gone fresh_token ks) (token_at ks j) ≡ chain n ks (token_at ks j)
  unfolding chain
  chain_stays zero j b w g = refl
  chain_stays (suc n) j b w g =
      ap (λ l. token_at ks j ∷ l)
      (ap (on_hit [] (chain n (cleared gone fresh_token ks))) (parent_stays j b w g)
      ∙ chain_step n j b w g (λ i b w g. chain_stays n i b w g) (parent_in ks (token_at ks j)) refl)

module _ (gone : Token → Bool) (t : Tables) (stay : ParentsStay gone t.tokens) where
  token_stays : (j : ℕ) → j < length t.tokens → gone (token_at t.tokens j) ≡ false → sound_token t (token_at t.tokens j) ≡ true
      → sound_token (with_tokens t (cleared gone fresh_token t.tokens)) (token_at t.tokens j) ≡ true
  unfolding volume_there parent_there
  token_stays j b g h = ⊎_elim used (free_token_lem u k) (pass_or_fail (used_token k))
    where
      k : Token
      k = token_at t.tokens j

      u : Tables
      u = with_tokens t (cleared gone fresh_token t.tokens)

      used : used_token k ≡ true → sound_token u k ≡ true
      used w =
          let f = token_facts t k w h in
          facts_token u k
          (record {
            numbered = f.numbered;
            prefix = f.prefix;
            cap = f.cap;
            window = f.window;
            volume = f.volume;
            parent = rw (same_any (is_token k.parent) u.tokens t.tokens (parent_stays gone t.tokens stay j b w g)) f.parent;
            chained = rw (chain_stays gone t.tokens stay (suc deepest) j b w g) f.chained;
            used = f.used;
          })

  -- the rest of the tables stays sound
  pub tokens_go : Rest t → Rest (with_tokens t (cleared gone fresh_token t.tokens))
  unfolding sound_relay
  tokens_go s =
      let u = with_tokens t (cleared gone fresh_token t.tokens) in
      record {
        counts = s.counts;
        volume_numbers = s.volume_numbers;
        volume_names = s.volume_names;
        entries = all_weaker (sound_entry t) (sound_entry u) t.entries (λ x h. entry_same t u refl x refl ∙ h) s.entries;
        entry_paths = s.entry_paths;
        tokens =
            all_cleared gone fresh_token (sound_token u) t.tokens fresh_token (free_token_lem u fresh_token refl)
            (λ j b g. token_stays j b g (all_at (sound_token t) t.tokens s.tokens j b fresh_token));
        token_numbers = clash_cleared gone fresh_token same_token t.tokens (λ y. refl) (λ x. no_zero x.no.0) s.token_numbers;
        relays = s.relays;
        relay_numbers_lem = s.relay_numbers_lem;
      }

  -- and families stay in one volume
  family_row : (c : Bool) (j : ℕ) → j < length t.tokens → gone (token_at t.tokens j) ≡ c → FamilyInOneVolume t
      → (r : Token) → r ≡ cond c fresh_token (token_at t.tokens j) → used_token r ≡ true → (i : ℕ) (k : Token)
      → find (is_token r.parent) (cleared gone fresh_token t.tokens) ≡ hit i k → k.volume.0 ≡ r.volume.0
  family_row true j b g f r q w i k e = absurd (true≢false (sym (rw q at w)))
  family_row false j b g f r q w i k e =
      let v : used_token (token_at t.tokens j) ≡ true = rw q at w in
      rw q (f j b v i k (sym (parent_stays gone t.tokens stay j b v g) ∙ rw q at e))

  pub family_stays : FamilyInOneVolume t → FamilyInOneVolume (with_tokens t (cleared gone fresh_token t.tokens))
  family_stays f j b w i k e =
      let c : j < length t.tokens = rw (length_cleared gone fresh_token t.tokens) at b in
      family_row (gone (token_at t.tokens j)) j c refl f (get_or (cleared gone fresh_token t.tokens) j fresh_token)
      (cleared_at gone fresh_token t.tokens j fresh_token c) w i k e
