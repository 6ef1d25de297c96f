-- Laws of charged: a commit changes of the tokens nothing but used bytes, and those only of a token that its quota leaves room for. So the
-- tokens stay sound. Assumes nothing.
use Rattle.std.specs.Prelude.{◌≡◌, Bool, false, List, [], map, leb, ltb, length, get_or}
use Rattle.std.proofs.Math.Path.{refl, ap, sym}
use Rattle.std.proofs.Common.{◌∙◌, le_of_suc-le-suc, not-suc-le-zero}
use Rattle.std.proofs.Math.Bool.{true}
use Rattle.std.proofs.Math.Logic.{⊎_elim}
use Prim.Native.Nat.{ℕ, zero, suc, ◌+◌, ◌<◌, ◌≤◌}
use Rattle.std.proofs.lemmas.List.{length-map}
use borrow.Author.Tests.{ltb-false, leb-true, le-leb}
use Rattle.lists.specs.Lists.{Hit, miss, hit, find, any_of, no_clash}
use Rattle.lists.specs.BoolLaws.{or_right, pass_or_fail}
use Rattle.lists.specs.SearchLaws.{found_below, found_at, miss_hit}
use Rattle.lists.specs.TestLaws.{all_at, none_at, any_at, all_weaker}
use Rattle.lists.specs.RowLaws.{clash_map}
use Rattle.rules.specs.declared.TokenNo.{TokenNo}
use Rattle.rules.specs.declared.VolumeNo.{VolumeNo}
use Rattle.rules.specs.declared.Token.{Token}
use Rattle.rules.specs.declared.Tables.{Tables}
use Rattle.rules.specs.Limits.{used_limit, deepest}
use Rattle.rules.specs.Fresh.{fresh_token}
use Rattle.rules.specs.Tables.{used_token, is_token, token_of, with_tokens, with_used}
use Rattle.rules.specs.Scope.{on_hit, chain, family, passes_cap, passes_quota}
use Rattle.rules.specs.Commit.{charged}
use Rattle.rules.specs.Sound.{sound_entry, sound_token, sound_relay, volume_there, parent_there, same_token}
use Rattle.rules.proofs.Laws.RowFacts.{token_facts, facts_token, free_token_lem}
use Rattle.rules.proofs.Laws.RestParts.{Rest}
use Rattle.rules.proofs.Laws.MappedLaws.{map_hit, all_mapped, find_mapped, mapped_at}
use Rattle.rules.proofs.Laws.LastingLaws.{entry_same}
use Rattle.rules.proofs.Laws.Family.{FamilyInOneVolume}
use Rattle.rules.proofs.Laws.BranchLaws.{cond_case}
use Rattle.rules.proofs.Laws.TakeLaws.{any_map}
use Rattle.rules.proofs.Laws.ApartLaws.{one_row}

-- the tokens of a chain are rows of the table
module _ (Q : Token → Type 0) (ts : List Token) (rows : (i : ℕ) → i < length ts → Q (get_or ts i fresh_token)) where
  chain_step : (n : ℕ) → ((k : Token) → Q k → (a : ℕ) → a < length (chain n ts k) → Q (get_or (chain n ts k) a fresh_token))
      → (p : Token → Bool) (h : Hit Token) → find p ts ≡ h → (a : ℕ) → a < length (on_hit [] (chain n ts) h) → Q (get_or (on_hit [] (chain n ts) h) a fresh_token)
  chain_step n rest p miss e a b = absurd (not-suc-le-zero b)
  chain_step n rest p (hit i x) e a b = rest x (rw (found_at p ts i x e fresh_token) at (rows i (found_below p ts i x e))) a b

  pub chain_rows : (n : ℕ) (k : Token) → Q k → (a : ℕ) → a < length (chain n ts k) → Q (get_or (chain n ts k) a fresh_token)
  unfolding chain
  chain_rows zero k q a b = absurd (not-suc-le-zero b)
  chain_rows (suc n) k q zero b = q
  chain_rows (suc n) k q (suc a) b =
      chain_step n (chain_rows n) (is_token k.parent) (find (is_token k.parent) ts) refl a (le_of_suc-le-suc b)

-- tokens that change in nothing but their used bytes
module _ (g : Token → Token) (keeps : (k : Token) → with_used (g k) 0 ≡ with_used k 0) where
  keeps_no : (k : Token) → (g k).no ≡ k.no
  keeps_no k = ap (λ (x : Token). x.no) (keeps k)

  keeps_parent : (k : Token) → (g k).parent ≡ k.parent
  keeps_parent k = ap (λ (x : Token). x.parent) (keeps k)

  keeps_volume : (k : Token) → (g k).volume ≡ k.volume
  keeps_volume k = ap (λ (x : Token). x.volume) (keeps k)

  module _ (ts : List Token) where
    found_kept : (n : TokenNo) → find (is_token n) (map g ts) ≡ map_hit g (find (is_token n) ts)
    found_kept n = find_mapped g (is_token n) (is_token n) 0 ts (λ x. rw (keeps_no x))

    there_kept : (n : TokenNo) → any_of (is_token n) (map g ts) ≡ any_of (is_token n) ts
    there_kept n = any_map g (is_token n) (is_token n) ts (λ x. rw (keeps_no x))

    numbers_kept : no_clash same_token ts ≡ no_clash same_token (map g ts)
    numbers_kept = clash_map same_token same_token g ts (λ x y. rw (keeps_no x, keeps_no y))

    -- chains stay as long as they are
    hit_length : (n : ℕ) → ((k : Token) → length (chain n (map g ts) (g k)) ≡ length (chain n ts k)) → (h : Hit Token)
        → length (on_hit [] (chain n (map g ts)) (map_hit g h)) ≡ length (on_hit [] (chain n ts) h)
    hit_length n rest miss = refl
    hit_length n rest (hit i x) = rest x

    chain_kept : (n : ℕ) (k : Token) → length (chain n (map g ts) (g k)) ≡ length (chain n ts k)
    unfolding chain
    chain_kept zero k = refl
    chain_kept (suc n) k =
        ap suc (rw (keeps_parent k, found_kept k.parent) (hit_length n (chain_kept n) (find (is_token k.parent) ts)))

module _ (g : Token → Token) (keeps : (k : Token) → with_used (g k) 0 ≡ with_used k 0) (t : Tables) where
  abbrev after : Tables
  after = with_tokens t (map g t.tokens)

  -- a token whose used bytes stay within 2^60 stays sound
  token_kept : (k : Token) → (used_token k ≡ true → (g k).used ≤ used_limit) → sound_token t k ≡ true → sound_token after (g k) ≡ true
  unfolding volume_there parent_there
  token_kept k room h = ⊎_elim used (λ w. free_token_lem after (g k) (rw (keeps_no g keeps k) w)) (pass_or_fail (used_token k))
    where
      used : used_token k ≡ true → sound_token after (g k) ≡ true
      used w =
          let f = token_facts t k w h in
          let s : (g k).scope ≡ k.scope = ap (λ (x : Token). x.scope) (keeps k) in
          facts_token after (g k)
          (record {
            numbered = rw (keeps_no g keeps k) f.numbered;
            prefix = rw s f.prefix;
            cap = rw s f.cap;
            window = rw s f.window;
            volume = rw (keeps_volume g keeps k) f.volume;
            parent = rw (keeps_parent g keeps k, there_kept g keeps t.tokens k.parent) f.parent;
            chained = rw (chain_kept g keeps t.tokens (suc deepest) k) f.chained;
            used = le-leb (g k).used used_limit (room w);
          })

  -- and so does the rest of the tables
  tokens_kept : ((j : ℕ) → j < length t.tokens → used_token (get_or t.tokens j fresh_token) ≡ true → (g (get_or t.tokens j fresh_token)).used ≤ used_limit)
      → Rest t → Rest after
  unfolding sound_relay
  tokens_kept room s =
      record {
        counts = s.counts;
        volume_numbers = s.volume_numbers;
        volume_names = s.volume_names;
        entries = all_weaker (sound_entry t) (sound_entry after) t.entries (λ x h. entry_same t after refl x refl ∙ h) s.entries;
        entry_paths = s.entry_paths;
        tokens =
            all_mapped g (sound_token t) (sound_token after) t.tokens fresh_token
            (λ j b h. token_kept (get_or t.tokens j fresh_token) (room j b) h) s.tokens;
        token_numbers = sym (numbers_kept g keeps t.tokens) ∙ s.token_numbers;
        relays = s.relays;
        relay_numbers_lem = s.relay_numbers_lem;
      }

  -- families stay in one volume
  hit_kept : (h : Hit Token) (i : ℕ) (k : Token) → map_hit g h ≡ hit i k → (x : Token) × (h ≡ hit i x) × (g x ≡ k)
  hit_kept miss i k e = absurd (miss_hit refl e)
  hit_kept (hit j x) i k e = let q : j ≡ i = cc in (x, rw q, (cc))

  family_kept : FamilyInOneVolume t → FamilyInOneVolume after
  family_kept f j b w i k e =
      let c : j < length t.tokens = rw (length-map t.tokens g) at b in
      let x = get_or t.tokens j fresh_token in
      let q : get_or (map g t.tokens) j fresh_token ≡ g x = mapped_at g t.tokens j fresh_token fresh_token c in
      let u : used_token x ≡ true = rw (q, keeps_no g keeps x) at w in
      let p = hit_kept (find (is_token x.parent) t.tokens) i k (sym (found_kept g keeps t.tokens x.parent) ∙ rw (q, keeps_parent g keeps x) at e) in
      rw q
      (ap (λ (y : Token). y.volume.0) (sym p.2)
      ∙ ap (λ (n : VolumeNo). n.0) (keeps_volume g keeps p.0)
      ∙ f j c u i p.0 p.1
      ∙ ap (λ (n : VolumeNo). n.0) (sym (keeps_volume g keeps x)))

-- a commit charges the token and its ancestors
charged_keeps : (ks : List Token) (bytes : ℕ) (k : Token) → with_used (charged ks bytes k) 0 ≡ with_used k 0
unfolding charged
charged_keeps ks bytes k =
    cond_case (λ x. with_used x 0 ≡ with_used k 0) (any_of (is_token k.no) ks) (with_used k (k.used + bytes)) k (λ e. refl) (λ e. refl)

module _ (t : Tables) (n : TokenNo) (i : ℕ) (k : Token) (found : token_of n t ≡ hit i k) (apart : no_clash same_token t.tokens ≡ true) (bytes : ℕ)
    (quota : any_of (passes_quota bytes) (family t.tokens k) ≡ false) where
  -- a row whose number is in the family is in the family
  module _ (j : ℕ) (b : j < length t.tokens) where
    abbrev row : Token
    row = get_or t.tokens j fresh_token

    row_itself : (a : ℕ) → a < length t.tokens → is_token row.no (get_or t.tokens a fresh_token) ≡ true → get_or t.tokens a fresh_token ≡ row
    row_itself a c e =
        ap (λ (x : ℕ). get_or t.tokens x fresh_token) (sym (one_row (λ (x : Token). x.no.0) t.tokens fresh_token apart j a b c e))

    found_itself : is_token row.no k ≡ true → k ≡ row
    unfolding token_of
    found_itself e =
        let q = found_at (is_token n) t.tokens i k found fresh_token in
        rw q at (row_itself i (found_below (is_token n) t.tokens i k found) (rw q e))

    -- so it has room for the bytes
    row_room : any_of (is_token row.no) (family t.tokens k) ≡ true → row.used + bytes ≤ used_limit
    row_room e =
        let ks = family t.tokens k in
        let f = any_at (is_token row.no) ks fresh_token e in
        let q = chain_rows (λ x. is_token row.no x ≡ true → x ≡ row) t.tokens row_itself deepest k found_itself f.0 f.1 f.2 in
        let p = rw q at (none_at (passes_quota bytes) ks quota f.0 f.1 fresh_token) in
        ltb-false used_limit (row.used + bytes) (or_right (passes_cap row.scope.cap (row.used + bytes)) (ltb used_limit (row.used + bytes)) p)

    charged_room : leb row.used used_limit ≡ true → (charged (family t.tokens k) bytes row).used ≤ used_limit
    unfolding charged
    charged_room h =
        cond_case (λ x. x.used ≤ used_limit) (any_of (is_token row.no) (family t.tokens k)) (with_used row (row.used + bytes)) row row_room
        (λ e. leb-true row.used used_limit h)

  pub charge_rest : Rest t → Rest (with_tokens t (map (charged (family t.tokens k) bytes) t.tokens))
  charge_rest s =
      let ks = family t.tokens k in
      tokens_kept (charged ks bytes) (charged_keeps ks bytes) t
      (λ j b w. charged_room j b (token_facts t (get_or t.tokens j fresh_token) w (all_at (sound_token t) t.tokens s.tokens j b fresh_token)).used) s

pub charge_family : (t : Tables) (ks : List Token) (bytes : ℕ) → FamilyInOneVolume t → FamilyInOneVolume (with_tokens t (map (charged ks bytes) t.tokens))
charge_family t ks bytes f = family_kept (charged ks bytes) (charged_keeps ks bytes) t f
