-- Laws of placed_put: it is one step of place_all, and on relays that are sound as far as placing needs it the numbers have room. Assumes nothing.
use Rattle.std.specs.Prelude.{◌≡◌, ◌&&◌, ◌||◌, not, ℕ, ◌+◌, ◌-◌, ◌<◌, ◌≤◌, length}
use Rattle.std.proofs.Math.Path.{refl}
use Rattle.std.proofs.Common.{sym, arith}
use Rattle.std.proofs.Math.Bool.{Bool, true, false, cond}
use mathlib.Core.List.{List, ◌∷◌, map}
use borrow.Author.Tests.{le-leb, leb-true, le-ltb, eqb-true}
use Rattle.std.proofs.Math.Dec.{leb, ltb}
use Rattle.std.proofs.Math.ListN.{get_or}
use Rattle.lists.specs.Lists.{all_of, no_clash, sum_of}
use Rattle.lists.specs.SumLaws.{bit_lt, sum_le}
use Rattle.lists.specs.BoolLaws.{and_left, and_right, and_both, not_both}
use Rattle.lists.specs.TestLaws.{all_at, at_all}
use Rattle.rules.specs.declared.RelayNo.{RelayNo}
use Rattle.rules.specs.declared.Placement.{Placement}
use Rattle.rules.specs.declared.Entry.{Entry}
use Rattle.rules.specs.declared.Relay.{Relay}
use Rattle.rules.specs.declared.Put.{Put}
use Rattle.rules.specs.declared.Tables.{Tables}
use Rattle.rules.specs.Limits.{entry_rows, capacity_limit, eligible_health, shard_places}
use Rattle.rules.specs.Fresh.{fresh_entry, fresh_relay}
use Rattle.rules.specs.Tables.{used_entry, used_relay, free_relay, with_room}
use Rattle.rules.specs.Relays.{health, shard_size, holds_shard, shards_on, loaded, too_few, taken, placement_of}
use Rattle.rules.specs.Sound.{sound_relay, same_relay_row}
use Rattle.rules.specs.Commit.{no_place, and_placed, place_all}
use Rattle.rules.proofs.Laws.ApartLaws.{used_not_free, not_free_used, other_part, either_part}
use Rattle.rules.proofs.Laws.RowFacts.{relay_facts}
use Rattle.rules.proofs.Laws.MappedLaws.{all_mapped}
use Rattle.rules.proofs.Laws.PlaceLaws.{fits_relay, fit_facts, taken_eligible, placed_on_lem}
use Rattle.placing.specs.declared.PlacedPut.{PlacedPut}
use Rattle.placing.specs.Room.{can_load, can_load_all, most_bytes, most_shards}
use Rattle.placing.specs.Put.{not_placed, took_place, placed_put}

-- a relay whose numbers have room where it takes a shard
can_load_lem : (bytes : ℕ) (p : Placement) (r : Relay)
    → (holds_shard r.no p ≡ true → (r.used + bytes ≤ most_bytes) × (r.held < most_shards)) → can_load bytes p r ≡ true
unfolding can_load
can_load_lem bytes p r f = go (holds_shard r.no p) f
  where
    go : (b : Bool) → (b ≡ true → (r.used + bytes ≤ most_bytes) × (r.held < most_shards))
        → (not b || (leb (r.used + bytes) most_bytes && leb (r.held + 1) most_shards)) ≡ true
    go false g = refl
    go true g =
        let h = g refl in
        and_both (le-leb (r.used + bytes) most_bytes h.0) (le-leb (r.held + 1) most_shards (omega (arith, h.1)))

pub can_load_all_lem : (bytes : ℕ) (p : Placement) (rs : List Relay) (d : Relay)
    → ((j : ℕ) → j < length rs → holds_shard (get_or rs j d).no p ≡ true → ((get_or rs j d).used + bytes ≤ most_bytes) × ((get_or rs j d).held < most_shards))
    → can_load_all bytes p rs ≡ true
unfolding can_load_all
can_load_all_lem bytes p rs d f = at_all (can_load bytes p) rs d (λ j h. can_load_lem bytes p (get_or rs j d) (f j h))

-- a relay in use has a capacity within the limit, and holds no more than so many shards
unfoldable pub few_held : ℕ → Relay → Bool
few_held most r = free_relay r || (leb r.capacity capacity_limit && leb r.held most)

-- so the relays that a put takes have room in their numbers
module _ (clock bytes wanted last most : ℕ) (rs : List Relay) (fit : all_of (fits_relay last) rs ≡ true) (apart : no_clash same_relay_row rs ≡ true)
    (few : all_of (few_held most) rs ≡ true) where
  pub chosen_fit : most < most_shards → can_load_all bytes (placement_of (taken clock bytes wanted rs)) rs ≡ true
  unfolding holds_shard few_held
  chosen_fit small =
      can_load_all_lem bytes (placement_of (taken clock bytes wanted rs)) rs fresh_relay
      (λ j h e.
      let r = get_or rs j fresh_relay in
      let ok = taken_eligible clock bytes wanted rs apart j h (rw (placed_on_lem (taken clock bytes wanted rs)) at e) in
      let room = and_right (used_relay r && leb eligible_health (health clock r)) (leb bytes (r.capacity - r.used)) ok in
      let live = and_left (used_relay r && leb eligible_health (health clock r)) (leb bytes (r.capacity - r.used)) ok in
      let used = and_left (used_relay r) (leb eligible_health (health clock r)) live in
      let g = fit_facts last r used (all_at (fits_relay last) rs fit j h fresh_relay) in
      let q =
      other_part (free_relay r) (leb r.capacity capacity_limit && leb r.held most) (used_not_free r.no.0 used)
      (all_at (few_held most) rs few j h fresh_relay) in
      let a = leb-true r.capacity capacity_limit (and_left (leb r.capacity capacity_limit) (leb r.held most) q) in
      let b = leb-true r.held most (and_right (leb r.capacity capacity_limit) (leb r.held most) q) in
      (omega (arith, leb-true bytes (r.capacity - r.used) room, g.within), omega arith))

-- and after it each relay holds one shard more at most
few_more : (most bytes : ℕ) (p : Placement) (r : Relay) → few_held most r ≡ true → few_held (most + 1) (loaded bytes p r) ≡ true
unfolding few_held loaded
few_more most bytes p r e = go (holds_shard r.no p)
  where
    small : Bool
    small = leb r.capacity capacity_limit

    held_one : (h : ℕ) → h ≤ r.held + 1 → (free_relay r || (small && leb h (most + 1))) ≡ true
    held_one h k =
        either_part (free_relay r) (small && leb h (most + 1))
        (λ n.
        let q = other_part (free_relay r) (small && leb r.held most) n e in
        let b = leb-true r.held most (and_right small (leb r.held most) q) in
        and_both (and_left small (leb r.held most) q) (le-leb h (most + 1) (omega arith)))

    go : (b : Bool) → few_held (most + 1) (cond b (with_room r (r.used + bytes) (r.held + 1)) r) ≡ true
    go true = held_one (r.held + 1) (omega arith)
    go false = held_one r.held (omega arith)

pub few_loaded : (most bytes : ℕ) (p : Placement) (rs : List Relay) → all_of (few_held most) rs ≡ true
    → all_of (few_held (most + 1)) (map (loaded bytes p) rs) ≡ true
few_loaded most bytes p rs =
    all_mapped (loaded bytes p) (few_held most) (few_held (most + 1)) rs fresh_relay (λ j h. few_more most bytes p (get_or rs j fresh_relay))

-- the relays of sound tables hold no more than one shard of each entry
one_shard : (n : RelayNo) (e : Entry) → shards_on n e ≤ 1
unfolding shards_on
one_shard n e = omega (arith, bit_lt (used_entry e && holds_shard n e.placement))

pub sound_few : (t : Tables) (r : Relay) → length t.entries ≡ entry_rows → sound_relay t r ≡ true → few_held entry_rows r ≡ true
unfolding few_held
sound_few t r l e =
    either_part (free_relay r) (leb r.capacity capacity_limit && leb r.held entry_rows)
    (λ n.
    let f = relay_facts t r (not_free_used r.no.0 n) e in
    let m = sum_le (shards_on r.no) 1 t.entries fresh_entry (λ j b. one_shard r.no (get_or t.entries j fresh_entry)) in
    let g = eqb-true r.held (sum_of (shards_on r.no) t.entries) f.held in
    let q : r.held ≤ entry_rows = omega (arith, m, g, l) in
    and_both f.capacity (le-leb r.held entry_rows q))

-- placed_put is one step of place_all
module _ (clock k m : ℕ) (p : Put) (ps : List Put) (rs : List Relay) where
  abbrev bytes : ℕ
  bytes = shard_size p.size k

  abbrev place : Placement
  place = placement_of (taken clock bytes (k + m) rs)

  abbrev one : PlacedPut
  one = placed_put clock k m p.size rs

  -- where it is placed, the others are placed on the relays that it left
  pub put_placed : one.placed ≡ true → place_all clock k m (p ∷ ps) rs ≡ and_placed one.place (place_all clock k m ps one.rows)
  unfolding placed_put took_place not_placed place_all
  put_placed = go (ltb shard_places (k + m)) (too_few clock bytes (k + m) rs) (can_load_all bytes place rs)
    where
      made : Bool → Bool → Bool → PlacedPut
      made a b c = cond a (not_placed rs) (cond b (not_placed rs) (cond c (record { placed = true; place = place; rows = map (loaded bytes place) rs }) (not_placed rs)))

      go : (a b c : Bool) → (made a b c).placed ≡ true
          → cond b no_place (and_placed place (place_all clock k m ps (map (loaded bytes place) rs))) ≡ and_placed (made a b c).place (place_all clock k m ps (made a b c).rows)
      go false false true e = refl
      go true b c e = absurd (not_both refl (sym e))
      go false true c e = absurd (not_both refl (sym e))
      go false false false e = absurd (not_both refl (sym e))

  -- where it is not, though the numbers have room for it and K+M is no more than the places of a placement, there is no place
  pub put_refused : k + m ≤ shard_places → can_load_all bytes place rs ≡ true → one.placed ≡ false → place_all clock k m (p ∷ ps) rs ≡ no_place
  unfolding placed_put took_place not_placed place_all
  put_refused h c e =
      let w : ltb shard_places (k + m) ≡ false = le-ltb shard_places (k + m) h in
      go (too_few clock bytes (k + m) rs) (rw (w, c) at e)
    where
      go : (b : Bool) → (cond b (not_placed rs) (record { placed = true; place = place; rows = map (loaded bytes place) rs })).placed ≡ false
          → cond b no_place (and_placed place (place_all clock k m ps (map (loaded bytes place) rs))) ≡ no_place
      go true q = refl
      go false q = absurd (not_both refl q)
