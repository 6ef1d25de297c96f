-- Laws of loaded and place_all: each put that is placed adds its bytes and one shard to the relays that it took and to no others, and no
-- relay takes more than its capacity. Assumes nothing.
use Rattle.std.specs.Prelude.{◌≡◌, refl, Bool, true, false, ◌&&◌, cond, ℕ, ◌+◌, ◌-◌, leb}
use Rattle.std.proofs.Math.Path.{ap, sym}
use Rattle.std.proofs.Common.{ap₂, ◌∙◌, arith, leb-true}
use mathlib.Core.List.{List, [], ◌∷◌, map}
use Rattle.std.proofs.Math.ListN.{get_or}
use Rattle.lists.specs.Lists.{bit, hit, find, all_of, sum_of, no_clash}
use Rattle.lists.specs.BoolLaws.{and_right, and_both}
use Rattle.lists.specs.RowLaws.{map_after, clash_map}
use Rattle.rules.specs.declared.VolumeNo.{VolumeNo}
use Rattle.rules.specs.declared.RelayNo.{RelayNo}
use Rattle.rules.specs.declared.Placement.{Placement}
use Rattle.rules.specs.declared.Volume.{Volume}
use Rattle.rules.specs.declared.Entry.{Entry}
use Rattle.rules.specs.declared.Relay.{Relay}
use Rattle.rules.specs.declared.Put.{Put}
use Rattle.rules.specs.declared.Tables.{Tables}
use Rattle.rules.specs.Limits.{eligible_health}
use Rattle.rules.specs.Fresh.{fresh_relay}
use Rattle.rules.specs.Tables.{given, used_relay, is_volume, with_room}
use Rattle.rules.specs.Relays.{health, shard_size, is_eligible, too_few, taken, placement_of, holds_shard, loaded, shard_bytes, bytes_on, shards_on}
use Rattle.rules.specs.Commit.{Placed, no_place, placed, and_placed, place_all, entry_for}
use Rattle.rules.specs.Sound.{sound_placement, same_relay_row}
use Rattle.rules.proofs.Laws.BranchLaws.{cond_case}
use Rattle.rules.proofs.Laws.MappedLaws.{all_mapped}
use Rattle.rules.proofs.Laws.PlaceLaws.{fits_relay, fit_facts, facts_fit, taken_eligible, placed_on_lem, place_sound}

-- a relay keeps its number
pub loaded_number : (bytes : ℕ) (p : Placement) (r : Relay) → (loaded bytes p r).no ≡ r.no
unfolding loaded
loaded_number bytes p r =
    cond_case (λ x. x.no ≡ r.no) (holds_shard r.no p) (with_room r (r.used + bytes) (r.held + 1)) r (λ e. refl) (λ e. refl)

pub loaded_apart : (bytes : ℕ) (p : Placement) (rs : List Relay) → no_clash same_relay_row rs ≡ true
    → no_clash same_relay_row (map (loaded bytes p) rs) ≡ true
loaded_apart bytes p rs e =
    sym (clash_map same_relay_row same_relay_row (loaded bytes p) rs (λ x y. rw (loaded_number bytes p x, loaded_number bytes p y))) ∙ e

-- a relay that may take a shard has room for it
eligible_room : (clock bytes last : ℕ) (r : Relay) → is_eligible clock bytes r ≡ true → fits_relay last r ≡ true
    → fits_relay last (with_room r (r.used + bytes) (r.held + 1)) ≡ true
eligible_room clock bytes last r p f =
    let room = and_right (used_relay r && leb eligible_health (health clock r)) (leb bytes (r.capacity - r.used)) p in
    facts_fit last (with_room r (r.used + bytes) (r.held + 1))
    (λ u.
    let g = fit_facts last r u f in
    record { numbered = g.numbered; within = omega (arith, leb-true bytes (r.capacity - r.used) room) })

module _ (clock bytes wanted last : ℕ) (rs : List Relay) (fit : all_of (fits_relay last) rs ≡ true) (apart : no_clash same_relay_row rs ≡ true) where
  abbrev chosen : Placement
  chosen = placement_of (taken clock bytes wanted rs)

  pub loaded_fit : all_of (fits_relay last) (map (loaded bytes chosen) rs) ≡ true
  unfolding loaded holds_shard
  loaded_fit =
      all_mapped (loaded bytes chosen) (fits_relay last) (fits_relay last) rs fresh_relay
      (λ j h f.
      let r = get_or rs j fresh_relay in
      cond_case (λ x. fits_relay last x ≡ true) (holds_shard r.no chosen) (with_room r (r.used + bytes) (r.held + 1)) r
      (λ e. eligible_room clock bytes last r (taken_eligible clock bytes wanted rs apart j h (rw (placed_on_lem (taken clock bytes wanted rs)) at e)) f)
      (λ e. f))
      fit

-- a relay with more bytes and shards
abbrev pub more_on : (RelayNo → ℕ) → (RelayNo → ℕ) → Relay → Relay
more_on bytes shards r = with_room r (r.used + bytes r.no) (r.held + shards r.no)

-- a relay with the bytes and the shards that entries have on it
abbrev pub with_shards : List Volume → List Entry → Relay → Relay
with_shards vs es r = more_on (λ n. sum_of (bytes_on vs n) es) (λ n. sum_of (shards_on n) es) r

none_more : (rs : List Relay) → map (more_on (λ n. 0) (λ n. 0)) rs ≡ rs
none_more [] = refl
none_more (r ∷ rs) = ap₂ ◌∷◌ (ap₂ (with_room r) (omega arith) (omega arith)) (none_more rs)

more_step : (b : Bool) (r : Relay) (bytes : ℕ) (m k : RelayNo → ℕ)
    → more_on m k (cond b (with_room r (r.used + bytes) (r.held + 1)) r)
    ≡ with_room r (r.used + (cond b bytes 0 + m r.no)) (r.held + (bit b + k r.no))
more_step true r bytes m k = ap₂ (with_room r) (omega arith) (omega arith)
more_step false r bytes m k = ap₂ (with_room r) (omega arith) (omega arith)

-- the entry of a put: its volume is in the table
module _ (vs : List Volume) (n : VolumeNo) (i : ℕ) (v : Volume) (g : given n.0 ≡ true) (found : find (is_volume n) vs ≡ hit i v) (p : Put)
    (place : Placement) where
  new_bytes : (m : RelayNo) → bytes_on vs m (entry_for n p place) ≡ cond (holds_shard m place) (shard_size p.size v.k) 0
  unfolding bytes_on shard_bytes
  new_bytes m = rw (g, found)

  new_shards : (m : RelayNo) → shards_on m (entry_for n p place) ≡ bit (holds_shard m place)
  unfolding shards_on
  new_shards m = rw g

  shards_step : (es : List Entry) (r : Relay) → with_shards vs es (loaded (shard_size p.size v.k) place r) ≡ with_shards vs (entry_for n p place ∷ es) r
  unfolding loaded sum_of
  shards_step es r =
      rw (new_bytes r.no, new_shards r.no)
      (more_step (holds_shard r.no place) r (shard_size p.size v.k) (λ m. sum_of (bytes_on vs m) es) (λ m. sum_of (shards_on m) es))

-- placing one put more
record MorePlaced (b : Bool) (place : Placement) (rest : Placed) (places : List Placement) (after : List Relay) : Type 0 where
  enough : b ≡ false
  others : List Placement
  others_placed : rest ≡ placed others after
  whole : place ∷ others ≡ places

more_placed : (b : Bool) (place : Placement) (rest : Placed) (places : List Placement) (after : List Relay)
    → cond b no_place (and_placed place rest) ≡ placed places after → MorePlaced b place rest places after
more_placed true place rest places after e = absurd (let z : ◌≡◌ {A = ℕ} 0 1 = cc in omega arith)
more_placed false place no_place places after e = absurd (let z : ◌≡◌ {A = ℕ} 0 1 = cc in omega arith)
more_placed false place (placed others rs) places after e =
    let q : rs ≡ after = cc in
    let w : place ∷ others ≡ places = cc in
    record { enough = refl; others = others; others_placed = ap (placed others) q; whole = w }

-- a put with its placement, and the entry that the two give
abbrev pub Staged : Type 0
Staged = Put × Placement

abbrev pub put_in : Staged → Put
put_in z = z.0

abbrev pub place_in : Staged → Placement
place_in z = z.1

abbrev pub entry_in : VolumeNo → Staged → Entry
entry_in n z = entry_for n z.0 z.1

-- what placing all puts of a volume gives
pub record PlacedAll (t : Tables) (v : Volume) (ps : List Put) (rs : List Relay) (places : List Placement) (after : List Relay) : Type 0 where
  pub pairs : List Staged
  pub puts : map put_in pairs ≡ ps
  pub placements : map place_in pairs ≡ places
  pub sound : all_of (sound_placement t v) places ≡ true
  pub shards : after ≡ map (with_shards t.volumes (map (entry_in v.no) pairs)) rs
  pub fit : all_of (fits_relay t.last_relay) after ≡ true

module _ (t : Tables) (v : Volume) (i clock : ℕ) (g : given v.no.0 ≡ true) (found : find (is_volume v.no) t.volumes ≡ hit i v) where
  pub placed_all : (ps : List Put) (rs : List Relay) (places : List Placement) (after : List Relay)
      → all_of (fits_relay t.last_relay) rs ≡ true → no_clash same_relay_row rs ≡ true
      → place_all clock v.k v.m ps rs ≡ placed places after → PlacedAll t v ps rs places after
  unfolding place_all sum_of
  placed_all [] rs places after fit apart e =
      let q : rs ≡ after = cc in
      let w : [] ≡ places = cc in
      record {
        pairs = [];
        puts = refl;
        placements = w;
        sound = rw (← w) refl;
        shards = sym q ∙ sym (none_more rs);
        fit = rw (← q) fit;
      }
  placed_all (p ∷ ps) rs places after fit apart e =
      let bytes = shard_size p.size v.k in
      let wanted = v.k + v.m in
      let place = placement_of (taken clock bytes wanted rs) in
      let next = map (loaded bytes place) rs in
      let m = more_placed (too_few clock bytes wanted rs) place (place_all clock v.k v.m ps next) places after e in
      let next-fit = loaded_fit clock bytes wanted t.last_relay rs fit apart in
      let rest = placed_all ps next m.others after next-fit (loaded_apart bytes place rs apart) m.others_placed in
      let news = map (entry_in v.no) rest.pairs in
      record {
        pairs = (p, place) ∷ rest.pairs;
        puts = ap (λ l. p ∷ l) rest.puts;
        placements = ap (λ l. place ∷ l) rest.placements ∙ m.whole;
        sound = rw (← m.whole) (and_both (place_sound t v clock bytes rs fit apart m.enough) rest.sound);
        shards =
            rest.shards
            ∙ map_after (with_shards t.volumes news) (loaded bytes place) (with_shards t.volumes (entry_for v.no p place ∷ news)) rs
            (shards_step t.volumes v.no i v g found p place news);
        fit = rest.fit;
      }
