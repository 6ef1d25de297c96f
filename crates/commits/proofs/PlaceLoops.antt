-- The placing of one put after another: relays that have room in their numbers keep it from put to put, so each put is placed as the rule has it.
-- Assumes nothing.
use mathlib.Core.Path.{◌≡◌, refl, sym, ◌∙◌, ap}
use mathlib.Core.Bool.{Bool, true, false, ◌&&◌, ◌||◌, cond, not}
use mathlib.Core.List.{List, [], ◌∷◌, ◌++◌, map}
use Prim.Native.Nat.{ℕ, ◌+◌, ◌*◌, ◌-◌, ◌<◌, ◌≤◌}
use native.Mathlib.Numerals.{add-one}
use native.Mathlib.Omega.{arith}
use borrow.Author.Tests.{le-leb, leb-true, eqb-true, not-true, not-false}
use borrow.Author.Rules.{rules}
use lib.Dec.{leb, ltb}
use lib.ListN.{length, take, drop, get_or, set, length-set, drop_of_length-le}
use lib.Seq.{drop-cons, take-suc-set, get_or-take}
use Rattle.lists.specs.Lists.{all_of, any_of}
use Rattle.text.specs.Text.{within as in_range}
use Rattle.lists.specs.BoolLaws.{and_left, and_right, and_both, not_both}
use Rattle.lists.specs.TestLaws.{all_at, all_weaker, any_at}
use Rattle.lists.specs.RowLaws.{rows_length}
use Rattle.rules.specs.declared.RelayNo.{RelayNo}
use Rattle.rules.specs.declared.Placement.{Placement}
use Rattle.rules.specs.declared.Relay.{Relay}
use Rattle.rules.specs.declared.Put.{Put}
use Rattle.rules.specs.Limits.{entry_rows, size_limit, capacity_limit, eligible_health, shard_places, least_k, most_k, least_m, most_m}
use Rattle.rules.specs.Fresh.{fresh_relay, no_relay}
use Rattle.rules.specs.Tables.{given, used_relay, free_relay, with_room}
use Rattle.rules.specs.Relays.{health, shard_size, is_eligible, ranked, number_of, taken, same_relay, holds_shard, loaded, too_few, placement_of}
use Rattle.rules.specs.Sound.{shards_fit}
use Rattle.rules.specs.Commit.{Placed, no_place, placed, and_placed, place_all}
use Rattle.rules.proofs.Laws.ApartLaws.{used_not_free, other_part, either_part}
use Rattle.rules.proofs.Laws.CeilLaws.{ceil_most}
use Rattle.rules.proofs.Laws.MappedLaws.{all_mapped}
use Rattle.rules.proofs.Laws.PlaceLaws.{ranked_pass, placed_on_lem}
use Rattle.rules.proofs.Laws.TakeLaws.{all_take}
use Rattle.placing.specs.declared.PlacedPut.{PlacedPut}
use Rattle.placing.specs.Room.{can_load_all}
use Rattle.placing.specs.Put.{not_placed, took_place, placed_put}
use Rattle.placing.specs.PutLaws.{can_load_all_lem, put_placed, put_refused}
use Rattle.surveys.specs.RowLimits.{relay_within, put_within}
use Rattle.surveys.specs.SurveyedLaws.{part_size}

-- after i puts a relay in use holds no more bytes and shards than they can have added
unfoldable pub room_left : ℕ → Relay → Bool
room_left i r = free_relay r || (leb r.used (capacity_limit + i * (size_limit + 1)) && leb r.held (entry_rows + i))

within_room : (r : Relay) → relay_within r ≡ true → room_left 0 r ≡ true
unfolding relay_within room_left
within_room r e =
    either_part (free_relay r) _
    (λ n.
    let q = other_part (free_relay r) (leb r.used capacity_limit && leb r.held entry_rows) n e in
    let a = leb-true r.used capacity_limit (and_left (leb r.used capacity_limit) (leb r.held entry_rows) q) in
    let b = leb-true r.held entry_rows (and_right (leb r.used capacity_limit) (leb r.held entry_rows) q) in
    and_both (le-leb r.used (capacity_limit + 0 * (size_limit + 1)) (omega arith)) (le-leb r.held (entry_rows + 0) (omega arith)))

record Roomy (i : ℕ) (r : Relay) : Type 0 where
  used : r.used ≤ capacity_limit + i * (size_limit + 1)
  held : r.held ≤ entry_rows + i

roomy : (i : ℕ) (r : Relay) → free_relay r ≡ false → room_left i r ≡ true → Roomy i r
unfolding room_left
roomy i r n e =
    let a = leb r.used (capacity_limit + i * (size_limit + 1)) in
    let b = leb r.held (entry_rows + i) in
    let q = other_part (free_relay r) (a && b) n e in
    record { used = leb-true r.used _ (and_left a b q); held = leb-true r.held _ (and_right a b q) }

room_after : (i bytes : ℕ) (p : Placement) (r : Relay) → bytes ≤ size_limit + 1 → room_left i r ≡ true → room_left (i + 1) (loaded bytes p r) ≡ true
unfolding room_left loaded
room_after i bytes p r small e = go (holds_shard r.no p)
  where
    more : (u h : ℕ) → u ≤ r.used + bytes → h ≤ r.held + 1
        → (free_relay r || (leb u (capacity_limit + (i + 1) * (size_limit + 1)) && leb h (entry_rows + (i + 1)))) ≡ true
    more u h a b =
        either_part (free_relay r) _
        (λ n.
        let q = roomy i r n e in
        and_both (le-leb u (capacity_limit + (i + 1) * (size_limit + 1)) (omega (arith, q.used))) (le-leb h (entry_rows + (i + 1)) (omega (arith, q.held))))

    go : (b : Bool) → room_left (i + 1) (cond b (with_room r (r.used + bytes) (r.held + 1)) r) ≡ true
    go true = more (r.used + bytes) (r.held + 1) (omega arith) (omega arith)
    go false = more r.used r.held (omega arith) (omega arith)

-- a relay that a put takes has a number
abbrev given_no : RelayNo → Bool
given_no n = given n.0

module _ (clock bytes wanted : ℕ) (rs : List Relay) where
  taken_given : all_of given_no (taken clock bytes wanted rs) ≡ true
  unfolding taken
  taken_given =
      let p = is_eligible clock bytes in
      all_mapped number_of p given_no (take wanted (ranked p rs)) fresh_relay
      (λ j h e.
      let r = get_or (take wanted (ranked p rs)) j fresh_relay in
      and_left (used_relay r) (leb eligible_health (health clock r))
      (and_left (used_relay r && leb eligible_health (health clock r)) (leb bytes (r.capacity - r.used)) e))
      (all_take wanted (ranked p rs) p (ranked_pass p rs))

  one_given : (n : RelayNo) → any_of (same_relay n) (taken clock bytes wanted rs) ≡ true → given n.0 ≡ true
  one_given n e =
      let f = any_at (same_relay n) (taken clock bytes wanted rs) no_relay e in
      let g = all_at given_no (taken clock bytes wanted rs) taken_given f.0 f.1 no_relay in
      rw (eqb-true (get_or (taken clock bytes wanted rs) f.0 no_relay).0 n.0 f.2) at g

  -- so it has room in its numbers
  chosen_room : (i : ℕ) → i < 8 → bytes ≤ size_limit + 1 → all_of (room_left i) rs ≡ true → can_load_all bytes (placement_of (taken clock bytes wanted rs)) rs ≡ true
  unfolding holds_shard
  chosen_room i few small left =
      can_load_all_lem bytes (placement_of (taken clock bytes wanted rs)) rs fresh_relay
      (λ j h e.
      let r = get_or rs j fresh_relay in
      let u = one_given r.no (rw (placed_on_lem (taken clock bytes wanted rs)) at e) in
      let q = roomy i r (used_not_free r.no.0 u) (all_at (room_left i) rs left j h fresh_relay) in
      (omega (arith, q.used), omega (arith, q.held)))

-- one put: where it is placed, the relays have taken its shards
placed_rows : (clock k m size : ℕ) (rs : List Relay) → (placed_put clock k m size rs).placed ≡ true
    → (placed_put clock k m size rs).rows ≡ map (loaded (shard_size size k) (placement_of (taken clock (shard_size size k) (k + m) rs))) rs
unfolding placed_put took_place not_placed
placed_rows clock k m size rs =
    go (ltb shard_places (k + m)) (too_few clock bytes (k + m) rs) (can_load_all bytes place rs)
  where
    bytes : ℕ
    bytes = shard_size size k

    place : Placement
    place = placement_of (taken clock bytes (k + m) rs)

    made : Bool → Bool → Bool → PlacedPut
    made a b c = cond a (not_placed rs) (cond b (not_placed rs) (cond c (record { placed = true; place = place; rows = map (loaded bytes place) rs }) (not_placed rs)))

    go : (a b c : Bool) → (made a b c).placed ≡ true → (made a b c).rows ≡ map (loaded bytes place) rs
    go false false true e = refl
    go true b c e = absurd (not_both refl (sym e))
    go false true c e = absurd (not_both refl (sym e))
    go false false false e = absurd (not_both refl (sym e))

-- placements in front of what placing the others gives
unfoldable pub and_all : List Placement → Placed → Placed
and_all [] x = x
and_all (p ∷ ps) x = and_placed p (and_all ps x)

and_last : (l : List Placement) (p : Placement) (x : Placed) → and_all (l ++ (p ∷ [])) x ≡ and_all l (and_placed p x)
unfolding and_all
and_last [] p x = refl
and_last (q ∷ l) p x = ap (and_placed q) (and_last l p x)

and_none : (l : List Placement) → and_all l no_place ≡ no_place
unfolding and_all
and_none [] = refl
and_none (q ∷ l) = rw (and_none l)

and_placed_lem : (l : List Placement) (rs : List Relay) → and_all l (placed [] rs) ≡ placed l rs
unfolding and_all
and_placed_lem [] rs = refl
and_placed_lem (q ∷ l) rs = rw (and_placed_lem l rs)

-- K and M in their ranges
record Shards (k m : ℕ) : Type 0 where
  least : 2 ≤ k
  most : k + m ≤ shard_places

shards : (k m : ℕ) → shards_fit k m ≡ true → Shards k m
shards k m e =
    let f = and_left (in_range least_k most_k k) (in_range least_m most_m m) e in
    let g = and_right (in_range least_k most_k k) (in_range least_m most_m m) e in
    let a = leb-true least_k k (and_left (leb least_k k) (leb k most_k) f) in
    let b = leb-true k most_k (and_right (leb least_k k) (leb k most_k) f) in
    let c = leb-true m most_m (and_right (leb least_m m) (leb m most_m) g) in
    record { least = omega arith; most = omega arith }

-- i of the n puts are placed: with what placing the others gives they are what placing all gives
pub record PlaceLoop (clock k m : ℕ) (ps : List Put) (rs₀ : List Relay) (n i : ℕ) (places : List Placement) (rs : List Relay) : Type 0 where
  pub size : length ps ≡ n
  pub most : n ≤ 8
  pub place : i ≤ n
  pub room : length places ≡ 8
  pub left : all_of (room_left i) rs ≡ true
  pub rest : place_all clock k m ps rs₀ ≡ and_all (take i places) (place_all clock k m (drop i ps) rs)

module _ (clock k m : ℕ) (ps : List Put) (rs₀ : List Relay) where
  pub place_start : (n : ℕ) (places : List Placement) → length ps ≡ n → n ≤ 8 → length places ≡ 8 → all_of relay_within rs₀ ≡ true
      → PlaceLoop clock k m ps rs₀ n 0 places rs₀
  unfolding and_all
  place_start n places e f g w =
      record { size = e; most = f; place = omega arith; room = g; left = all_weaker relay_within (room_left 0) rs₀ within_room w; rest = refl }

  module _ (n i : ℕ) (places : List Placement) (rs : List Relay) (h : PlaceLoop clock k m ps rs₀ n i places rs) where
    pub place_room : length places ≡ 8
    place_room = h.room

    pub place_end : n ≤ i → placed (take n places) rs ≡ place_all clock k m ps rs₀
    unfolding place_all
    place_end w =
        let e : i ≡ n = omega (arith, h.place) in
        let z : drop i ps ≡ [] = drop_of_length-le ps {i = i} (omega (arith, h.size)) in
        sym (h.rest ∙ rw (z, e) (and_placed_lem (take n places) rs))

-- one is what the code was given for the put at i
module _ (clock k m : ℕ) (puts : List Put) (rs₀ : List Relay) (n i : ℕ) (places : List Placement) (rs : List Relay)
    (h : PlaceLoop clock k m (take n puts) rs₀ n i places rs) (low : i < n) (d : Put) (one : PlacedPut)
    (e : one ≡ placed_put clock k m (get_or puts i d).size rs) (fit : shards_fit k m ≡ true) (sizes : all_of put_within (take n puts) ≡ true) where
  abbrev p : Put
  p = get_or (take n puts) i d

  abbrev bytes : ℕ
  bytes = shard_size p.size k

  abbrev place : Placement
  place = placement_of (taken clock bytes (k + m) rs)

  same : one ≡ placed_put clock k m p.size rs
  same = rw (get_or-take n puts i d low) e

  split : drop i (take n puts) ≡ p ∷ drop (i + 1) (take n puts)
  split = rw (add-one i) (drop-cons (take n puts) i d (omega (arith, h.size)))

  small : bytes ≤ size_limit + 1
  unfolding put_within
  small =
      let s = leb-true p.size size_limit (all_at put_within (take n puts) sizes i (omega (arith, h.size)) d) in
      let f = shards k m fit in
      omega (arith, ceil_most p.size k (λ z. omega (arith, f.least)))

  pub place_refused : not one.placed ≡ true → no_place ≡ place_all clock k m (take n puts) rs₀
  place_refused r =
      let f = shards k m fit in
      let c : can_load_all bytes place rs ≡ true = chosen_room clock bytes (k + m) rs i (omega (arith, h.most)) small h.left in
      let q = put_refused clock k m p (drop (i + 1) (take n puts)) rs f.most c (rw same at (not-true one.placed r)) in
      sym (h.rest ∙ rw (split, q) (and_none (take i places)))

  pub place_step : not one.placed ≡ false → PlaceLoop clock k m (take n puts) rs₀ n (i + 1) (set places i one.place) one.rows
  place_step r =
      let t : one.placed ≡ true = not-false one.placed r in
      let g : (placed_put clock k m p.size rs).placed ≡ true = rw same at t in
      let after = placed_rows clock k m p.size rs g in
      let q = put_placed clock k m p (drop (i + 1) (take n puts)) rs g in
      let z : take (i + 1) (set places i one.place) ≡ take i places ++ (one.place ∷ []) =
      rw (add-one i) (take-suc-set places i one.place (omega (arith, h.room, h.most))) in
      record {
        size = h.size;
        most = h.most;
        place = omega arith;
        room = length-set places i one.place ∙ h.room;
        left =
            rw (same, after)
            (all_mapped (loaded bytes place) (room_left i) (room_left (i + 1)) rs fresh_relay (λ j b. room_after i bytes place (get_or rs j fresh_relay) small) h.left);
        rest =
            h.rest
            ∙ rw (split, q, z)
            (rw (same) (sym (and_last (take i places) (placed_put clock k m p.size rs).place (place_all clock k m (drop (i + 1) (take n puts)) (placed_put clock k m p.size rs).rows))));
      }

pub ruleset places = (place_step, place_refused, place_end, place_room, place_start, part_size, rows_length, rules)
