-- Laws of ranked, taken and placement_of: a put takes as many relays as it wants, each a row of the table that may take a shard, and no two of
-- one number. Assumes nothing.
use Rattle.std.specs.Prelude.{◌≡◌, true, false, ◌&&◌, ◌||◌, cond, ℕ, suc, ◌+◌, ◌-◌, ◌<◌, ◌≤◌, leb, take, replicate}
use Rattle.std.proofs.Math.Path.{refl, ap, sym}
use Rattle.std.proofs.Common.{◌∙◌, arith, ltb-false, leb-true, le-leb, eqb-true, eq-eqb}
use Rattle.std.proofs.Math.Bool.{Bool, not}
use Rattle.std.proofs.Math.Logic.{⊎_elim}
use mathlib.Core.List.{List, [], ◌∷◌}
use Rattle.std.proofs.Math.ListN.{length, get_or, length-map}
use Rattle.std.proofs.Math.Seq.{length-take-le, take-append_seam}
use Rattle.std.proofs.lemmas.Bool.{not-true}
use Rattle.lists.specs.Lists.{bit, all_of, any_of, count_if, no_clash, bit_set}
use Rattle.lists.specs.BoolLaws.{and_left, and_right, and_both, or_left, or_right, or_none, pass_or_fail, not_pass, not_both}
use Rattle.lists.specs.TestLaws.{all_at, at_all, any_at, clash_at, at_clash}
use Rattle.lists.specs.RowLaws.{clash_map}
use Rattle.lists.specs.BitLaws.{ones_rows}
use Rattle.std.specs.Int.Count.{ones}
use Rattle.rules.specs.declared.RelayNo.{RelayNo}
use Rattle.rules.specs.declared.Relay.{Relay}
use Rattle.rules.specs.declared.Volume.{Volume}
use Rattle.rules.specs.declared.Tables.{Tables}
use Rattle.rules.specs.Limits.{shard_places, eligible_health}
use Rattle.rules.specs.Fresh.{no_relay, fresh_relay}
use Rattle.rules.specs.Tables.{used_relay, free_relay}
use Rattle.rules.specs.Relays.{comes_before, in_order, ranked, is_eligible, health, too_few, taken, number_of, placement_of, placed_on, same_relay, eligible_set}
use Rattle.rules.specs.Sound.{is_given, sound_placement, same_relay_row}
use Rattle.rules.proofs.Laws.BranchLaws.{cond_case}
use Rattle.rules.proofs.Laws.TakeLaws.{all_take, clash_take, any_map}
use Rattle.rules.proofs.Laws.MappedLaws.{all_mapped}
use Rattle.rules.proofs.Laws.ApartLaws.{used_not_free, not_free_used, other_part, either_part, numbered_symmetric, one_row}

-- a row put into its place: the rows are those that were there and the new one
or_swap : (a b c : Bool) → (a || (b || c)) ≡ (b || (a || c))
or_swap true true c = refl
or_swap true false c = refl
or_swap false b c = refl

and_swap : (a b c : Bool) → (a && (b && c)) ≡ (b && (a && c))
and_swap true b c = refl
and_swap false true c = refl
and_swap false false c = refl

length_in_order : (r : Relay) (rs : List Relay) → length (in_order r rs) ≡ suc (length rs)
unfolding in_order
length_in_order r [] = refl
length_in_order r (s ∷ ss) =
    cond_case (λ l. length l ≡ suc (suc (length ss))) (comes_before r s) (r ∷ s ∷ ss) (s ∷ in_order r ss) (λ e. refl)
    (λ e. ap suc (length_in_order r ss))

module _ (q : Relay → Bool) where
  any_in_order : (r : Relay) (rs : List Relay) → any_of q (in_order r rs) ≡ (q r || any_of q rs)
  unfolding in_order
  any_in_order r [] = refl
  any_in_order r (s ∷ ss) =
      cond_case (λ l. any_of q l ≡ (q r || (q s || any_of q ss))) (comes_before r s) (r ∷ s ∷ ss) (s ∷ in_order r ss) (λ e. refl)
      (λ e. rw (any_in_order r ss) (or_swap (q s) (q r) (any_of q ss)))

  all_in_order : (r : Relay) (rs : List Relay) → all_of q (in_order r rs) ≡ (q r && all_of q rs)
  unfolding in_order
  all_in_order r [] = refl
  all_in_order r (s ∷ ss) =
      cond_case (λ l. all_of q l ≡ (q r && (q s && all_of q ss))) (comes_before r s) (r ∷ s ∷ ss) (s ∷ in_order r ss) (λ e. refl)
      (λ e. rw (all_in_order r ss) (and_swap (q s) (q r) (all_of q ss)))

clash_swap : (a b c d : Bool) → (not (a || b) && (not c && d)) ≡ (not (a || c) && (not b && d))
clash_swap true b c d = refl
clash_swap false true true d = refl
clash_swap false true false d = refl
clash_swap false false true d = refl
clash_swap false false false d = refl

clash_in_order : (clash : Relay → Relay → Bool) → ((a b : Relay) → clash a b ≡ clash b a) → (r : Relay) (rs : List Relay)
    → no_clash clash (in_order r rs) ≡ (not (any_of (clash r) rs) && no_clash clash rs)
unfolding in_order no_clash
clash_in_order clash sy r [] = refl
clash_in_order clash sy r (s ∷ ss) =
    cond_case (λ l. no_clash clash l ≡ (not (clash r s || any_of (clash r) ss) && (not (any_of (clash s) ss) && no_clash clash ss)))
    (comes_before r s) (r ∷ s ∷ ss) (s ∷ in_order r ss) (λ e. refl)
    (λ e.
    rw (any_in_order (clash s) r ss, clash_in_order clash sy r ss, sy s r)
    (clash_swap (clash r s) (any_of (clash s) ss) (any_of (clash r) ss) (no_clash clash ss)))

-- the ranked rows: as many as pass, each passes, and what every row passes, what no row passes and what clashes is as in the table
module _ (p : Relay → Bool) where
  length_one : (b : Bool) (r : Relay) (l : List Relay) → length (cond b (in_order r l) l) ≡ bit b + length l
  length_one true r l = length_in_order r l ∙ omega arith
  length_one false r l = omega arith

  pub length_ranked : (rs : List Relay) → length (ranked p rs) ≡ count_if p rs
  unfolding ranked count_if
  length_ranked [] = refl
  length_ranked (r ∷ rs) = length_one (p r) r (ranked p rs) ∙ ap (λ (n : ℕ). bit (p r) + n) (length_ranked rs)

  pub ranked_pass : (rs : List Relay) → all_of p (ranked p rs) ≡ true
  unfolding ranked
  ranked_pass [] = refl
  ranked_pass (r ∷ rs) =
      cond_case (λ l. all_of p l ≡ true) (p r) (in_order r (ranked p rs)) (ranked p rs)
      (λ e. all_in_order p r (ranked p rs) ∙ and_both e (ranked_pass rs)) (λ e. ranked_pass rs)

  pub all_ranked : (q : Relay → Bool) (rs : List Relay) → all_of q rs ≡ true → all_of q (ranked p rs) ≡ true
  unfolding ranked
  all_ranked q [] h = refl
  all_ranked q (r ∷ rs) h =
      let rest = all_ranked q rs (and_right (q r) (all_of q rs) h) in
      cond_case (λ l. all_of q l ≡ true) (p r) (in_order r (ranked p rs)) (ranked p rs)
      (λ e. all_in_order q r (ranked p rs) ∙ and_both (and_left (q r) (all_of q rs) h) rest) (λ e. rest)

  pub none_ranked : (q : Relay → Bool) (rs : List Relay) → any_of q rs ≡ false → any_of q (ranked p rs) ≡ false
  unfolding ranked
  none_ranked q [] h = refl
  none_ranked q (r ∷ rs) h =
      let rest = none_ranked q rs (or_right (q r) (any_of q rs) h) in
      cond_case (λ l. any_of q l ≡ false) (p r) (in_order r (ranked p rs)) (ranked p rs)
      (λ e. any_in_order q r (ranked p rs) ∙ or_none (or_left (q r) (any_of q rs) h) rest) (λ e. rest)

  pub clash_ranked : (clash : Relay → Relay → Bool) → ((a b : Relay) → clash a b ≡ clash b a) → (rs : List Relay)
      → no_clash clash rs ≡ true → no_clash clash (ranked p rs) ≡ true
  unfolding ranked no_clash
  clash_ranked clash sy [] h = refl
  clash_ranked clash sy (r ∷ rs) h =
      let rest = clash_ranked clash sy rs (and_right (not (any_of (clash r) rs)) (no_clash clash rs) h) in
      let none = none_ranked (clash r) rs (not-true (any_of (clash r) rs) (and_left (not (any_of (clash r) rs)) (no_clash clash rs) h)) in
      cond_case (λ l. no_clash clash l ≡ true) (p r) (in_order r (ranked p rs)) (ranked p rs)
      (λ e. clash_in_order clash sy r (ranked p rs) ∙ rw none rest) (λ e. rest)

-- a relay's row as far as placing needs it: its number given, and its used bytes within its capacity
unfoldable pub fits_relay : ℕ → Relay → Bool
fits_relay last r = free_relay r || (is_given last r.no.0 && leb r.used r.capacity)

-- what that says of a row in use, and back
pub record Fits (last : ℕ) (r : Relay) : Type 0 where
  pub numbered : is_given last r.no.0 ≡ true
  pub within : r.used ≤ r.capacity

pub fit_facts : (last : ℕ) (r : Relay) → used_relay r ≡ true → fits_relay last r ≡ true → Fits last r
unfolding fits_relay
fit_facts last r u e =
    let f = other_part (free_relay r) (is_given last r.no.0 && leb r.used r.capacity) (used_not_free r.no.0 u) e in
    record {
      numbered = and_left (is_given last r.no.0) (leb r.used r.capacity) f;
      within = leb-true r.used r.capacity (and_right (is_given last r.no.0) (leb r.used r.capacity) f);
    }

pub facts_fit : (last : ℕ) (r : Relay) → (used_relay r ≡ true → Fits last r) → fits_relay last r ≡ true
unfolding fits_relay
facts_fit last r f =
    either_part (free_relay r) (is_given last r.no.0 && leb r.used r.capacity)
    (λ n. let g = f (not_free_used r.no.0 n) in and_both g.numbered (le-leb r.used r.capacity g.within))

eligible_used : (clock bytes : ℕ) (r : Relay) → is_eligible clock bytes r ≡ true → used_relay r ≡ true
eligible_used clock bytes r e =
    let f = and_left (used_relay r && leb eligible_health (health clock r)) (leb bytes (r.capacity - r.used)) e in
    and_left (used_relay r) (leb eligible_health (health clock r)) f

-- what a put takes, of relays that fit
module _ (clock bytes wanted : ℕ) (rs : List Relay) where
  abbrev taken_rows : List Relay
  taken_rows = take wanted (ranked (is_eligible clock bytes) rs)

  taken_pass : (a : ℕ) → a < length taken_rows → is_eligible clock bytes (get_or taken_rows a fresh_relay) ≡ true
  taken_pass a h =
      let p = is_eligible clock bytes in
      all_at p taken_rows (all_take wanted (ranked p rs) p (ranked_pass p rs)) a h fresh_relay

  -- as many as are wanted
  pub length_taken : too_few clock bytes wanted rs ≡ false → length (taken clock bytes wanted rs) ≡ wanted
  unfolding too_few eligible_set taken
  length_taken e =
      let p = is_eligible clock bytes in
      let h : wanted ≤ length (ranked p rs) = rw (length_ranked p rs, ← ones_rows p rs) (ltb-false (ones (bit_set p rs)) wanted e) in
      length-map taken_rows number_of ∙ length-take-le wanted (ranked p rs) h

  -- each of a number that was given
  pub taken_given : (last : ℕ) → all_of (fits_relay last) rs ≡ true → all_of (λ n. is_given last n.0) (taken clock bytes wanted rs) ≡ true
  unfolding taken
  taken_given last fit =
      let p = is_eligible clock bytes in
      all_mapped number_of (fits_relay last) (λ n. is_given last n.0) taken_rows fresh_relay
      (λ a h e.
      (fit_facts last (get_or taken_rows a fresh_relay) (eligible_used clock bytes (get_or taken_rows a fresh_relay) (taken_pass a h)) e).numbered)
      (all_take wanted (ranked p rs) (fits_relay last) (all_ranked p (fits_relay last) rs fit))

  module _ (apart : no_clash same_relay_row rs ≡ true) where
    -- no two the same
    pub taken_apart : no_clash same_relay (taken clock bytes wanted rs) ≡ true
    unfolding taken
    taken_apart =
        let p = is_eligible clock bytes in
        let c : Relay → Relay → Bool = λ a b. same_relay a.no b.no in
        let sy : (a b : Relay) → same_relay_row a b ≡ same_relay_row b a = λ a b. numbered_symmetric a.no.0 b.no.0 in
        let rows = clash_take wanted (ranked p rs) same_relay_row fresh_relay (clash_ranked p same_relay_row sy rs apart) in
        sym (clash_map c same_relay number_of taken_rows (λ x y. refl))
        ∙ at_clash c taken_rows fresh_relay
        (λ i j h k.
        rw (eligible_used clock bytes (get_or taken_rows i fresh_relay) (taken_pass i (omega arith))) at (clash_at same_relay_row taken_rows rows i j h k fresh_relay))

    -- a row may take a shard where a row of its number may
    eligible_row : (i j : ℕ) → i < length rs → j < length rs
        → (is_eligible clock bytes (get_or rs i fresh_relay) && same_relay (get_or rs j fresh_relay).no (get_or rs i fresh_relay).no) ≡ true
        → is_eligible clock bytes (get_or rs j fresh_relay) ≡ true
    eligible_row i j h k b =
        let x = get_or rs i fresh_relay in
        let y = get_or rs j fresh_relay in
        let p = and_left (is_eligible clock bytes x) (same_relay y.no x.no) b in
        let q = eqb-true x.no.0 y.no.0 (and_right (is_eligible clock bytes x) (same_relay y.no x.no) b) in
        let n = and_both (eligible_used clock bytes x p) (eq-eqb y.no.0 x.no.0 (sym q)) in
        rw (one_row (λ r. r.no.0) rs fresh_relay apart i j h k n) at p

    -- a row whose number was taken may take a shard
    pub taken_eligible : (j : ℕ) → j < length rs → any_of (same_relay (get_or rs j fresh_relay).no) (taken clock bytes wanted rs) ≡ true
        → is_eligible clock bytes (get_or rs j fresh_relay) ≡ true
    unfolding taken
    taken_eligible j h e =
        let p = is_eligible clock bytes in
        let same : Relay → Bool = λ x. same_relay (get_or rs j fresh_relay).no x.no in
        let other : Relay → Bool = λ x. not (p x && same x) in
        ⊎_elim (λ t. t)
        (λ n.
        let o =
        at_all other rs fresh_relay
        (λ i k. ap not (not_pass (p (get_or rs i fresh_relay) && same (get_or rs i fresh_relay)) (λ b. not_both (eligible_row i j k h b) n))) in
        let f = any_at same taken_rows fresh_relay (sym (any_map number_of (same_relay (get_or rs j fresh_relay).no) same taken_rows (λ x. refl)) ∙ e) in
        let x = get_or taken_rows f.0 fresh_relay in
        let w = all_at other taken_rows (all_take wanted (ranked p rs) other (all_ranked p other rs o)) f.0 f.1 fresh_relay in
        absurd (not_both (and_both (taken_pass f.0 f.1) f.2) (not-true (p x && same x) w)))
        (pass_or_fail (p (get_or rs j fresh_relay)))

-- "A placement record keeps up to 24 relay numbers, by shard index": those that it was made of
pub placed_on_lem : (ns : List RelayNo) → placed_on (placement_of ns) ≡ ns
placed_on_lem ns = take-append_seam ns (replicate (shard_places - length ns) no_relay)

-- so the placement of a put is sound
pub place_sound : (t : Tables) (v : Volume) (clock bytes : ℕ) (rs : List Relay) → all_of (fits_relay t.last_relay) rs ≡ true
    → no_clash same_relay_row rs ≡ true → too_few clock bytes (v.k + v.m) rs ≡ false
    → sound_placement t v (placement_of (taken clock bytes (v.k + v.m) rs)) ≡ true
unfolding sound_placement
place_sound t v clock bytes rs fit apart few =
    let n = v.k + v.m in
    let ns = taken clock bytes n rs in
    rw (placed_on_lem ns)
    (and_both (and_both (eq-eqb (length ns) n (length_taken clock bytes n rs few)) (taken_given clock bytes n rs t.last_relay fit))
    (taken_apart clock bytes n rs apart))
