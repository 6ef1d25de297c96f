-- What the tests of the volumes and entries say of an entry's shards, and the loops over the entries. Assumes nothing.
use Rattle.std.specs.Prelude.{Option, Some, None}
use mathlib.Core.Path.{◌≡◌, refl, sym, ◌∙◌, ap}
use mathlib.Core.Bool.{Bool, true, false, cond, ◌&&◌, ◌||◌}
use mathlib.Core.List.{List, map}
use Prim.Native.Nat.{ℕ, ◌+◌, ◌*◌, ◌/◌, ◌%◌, ◌^◌, ◌<◌, ◌≤◌}
use mir.Val.{Fits}
use mir.Syntax.{w32, w64}
use native.Mathlib.Omega.{arith}
use borrow.Author.Rules.{rules}
use borrow.Author.Tests.{ltb-true, leb-true, eqb-true, ne_eqb}
use lib.Dec.{eqb, leb}
use lib.ListN.{length, get_or, set, replicate, length-set, length-map}
use Rattle.lists.specs.Lists.{Hit, first_at, all_of, no_clash, find, hit, miss, sum_of}
use Rattle.lists.specs.SumLaws.{bit_lt, sum_le}
use Rattle.lists.specs.LoopLaws.{SumLoop, sum_start, sum_adds, sum_skips, sum_within, sum_all}
use Rattle.lists.specs.RowLaws.{rows_length, map_row}
use Rattle.lists.specs.BoolLaws.{and_left, and_right}
use Rattle.lists.specs.SearchLaws.{first_below, found_below, found_at, row_passes, none_miss}
use Rattle.lists.specs.ByteLoopLaws.{FillLoop, fill_start, fill_whole, length_mapped, least_mapped}
use Rattle.lists.specs.TestLaws.{all_at, at_none}
use Rattle.text.specs.Text.{within, is_path, holds, holds_name}
use Rattle.rules.specs.declared.Volume.{Volume}
use Rattle.rules.specs.declared.Entry.{Entry}
use Rattle.rules.specs.declared.RelayNo.{RelayNo}
use Rattle.rules.specs.declared.Tables.{Tables}
use Rattle.rules.specs.Limits.{size_limit, balance_limit}
use Rattle.rules.specs.Tables.{given, numbered, is_volume, used_entry, free_volume, free_entry}
use Rattle.rules.specs.Scope.{cap_fits}
use Rattle.rules.specs.Relays.{shard_size, shard_bytes, holds_shard, bytes_on, shards_on}
use Rattle.rules.specs.Sound.{is_given, shards_fit, sound_status, sound_volume, sound_volumes, same_volume, same_name, sound_in, sound_entry, sound_entries, same_entry}
use Rattle.rules.proofs.Laws.CeilLaws.{ceil_most}
use Rattle.rows.specs.ShardBytes.{shard_none, shard_some, bytes_none, bytes_at_lem}
use Rattle.sound_rows.specs.Numbers.{volume_number, volume_k, relay_number}
use Rattle.soundness.specs.Held.{held_set}
use Rattle.sound_rows.specs.FillLaws.{fill_zero, fill_stored}
use Rattle.sound_rows.specs.FieldLaws.{in_rows, field_at}
use Rattle.soundness.proofs.HeldLaws.{held_told, held_among}
use Rattle.rows.specs.Blank.{blank_volume, blank_entry, blank_relay}

-- a used row that is sound passes what comes after the test for a free one
used_row : (free rest : Bool) → free ≡ false → (free || rest) ≡ true → rest ≡ true
used_row true rest e h = absurd (let z : ◌≡◌ {A = ℕ} 0 1 = cc in omega arith)
used_row false rest e h = h

-- the bytes of an entry's shards, where the search for its volume's number m said f
module _ (vs : List Volume) (e : Entry) (n m : ℕ) (ns : List ℕ) (f : Option ℕ) (w : f ≡ first_at (numbered m) 0 ns) (same : m ≡ n) (of : e.volume.0 ≡ n)
    (k : ns ≡ map volume_number vs) where
  there : f ≡ first_at (is_volume e.volume) 0 vs
  there = in_rows volume_number (numbered e.volume.0) vs ns f (rw (same, ← of) at w) k

  pub no_bytes : f ≡ None → 0 ≡ shard_bytes vs e
  no_bytes q = bytes_none vs e f there q

  pub some_bytes : (ks : List ℕ) (r i size : ℕ) → f ≡ Some i → ks ≡ map volume_k vs → e.size ≡ size → r ≡ shard_size size (get_or ks i 0) → r ≡ shard_bytes vs e
  some_bytes ks r i size q g z h =
      let below : i < length vs = omega (arith, first_below (is_volume e.volume) vs 0 i (sym there ∙ q)) in
      bytes_at_lem vs e f there r i q (h ∙ rw (z, field_at volume_k vs ks i blank_volume 0 g below))

-- a free row's shards have no bytes, so that 0 may stand for them
free_size : (vs : List Volume) (e : Entry) → e.volume.0 ≡ 0 → shard_bytes vs e ≡ 0
free_size vs e h = shard_none vs e (none_miss (is_volume e.volume) vs 0 (at_none (is_volume e.volume) vs blank_volume (λ j k. rw h)))

-- the loop that stores the sizes, at the entry i: ns and ks are the numbers and the K of any volumes vs
pub record SizesLoop (es : List Entry) (ns ks out : List ℕ) (i : ℕ) : Type 0 where
  pub size : length out ≡ 64
  pub rows : length es ≡ 64
  pub stored : (vs : List Volume) → ns ≡ map volume_number vs → ks ≡ map volume_k vs → FillLoop (replicate 64 0) 0 (map (shard_bytes vs) es) 64 i out

module _ (es : List Entry) (ns ks : List ℕ) where
  pub sizes_start : length es ≡ 64 → SizesLoop es ns ks (replicate 64 0) 0
  sizes_start e =
      record { size = refl; rows = e; stored = λ vs f g. fill_start (replicate 64 0) 0 (map (shard_bytes vs) es) 64 (omega arith) (least_mapped (shard_bytes vs) es 64 e) }

  module _ (i : ℕ) (out : List ℕ) (h : SizesLoop es ns ks out i) where
    pub sizes_end : (vs : List Volume) → 64 ≤ i → ns ≡ map volume_number vs → ks ≡ map volume_k vs → out ≡ map (shard_bytes vs) es
    sizes_end vs k f g = fill_whole (replicate 64 0) (map (shard_bytes vs) es) 64 i out (h.stored vs f g) k refl (length_mapped (shard_bytes vs) es 64 h.rows)

    module _ (next : List ℕ) (k : i < 64) where
      -- a free row's is there already
      pub size_skipped : (get_or es i blank_entry).volume.0 ≡ 0 → next ≡ out → SizesLoop es ns ks next (i + 1)
      size_skipped e q =
          record {
            size = rw q h.size;
            rows = h.rows;
            stored = λ vs f g. fill_zero (shard_bytes vs) blank_entry es 64 i out next (h.stored vs f g) k (free_size vs (get_or es i blank_entry) e) q;
          }

      -- x is what was said of an entry of this volume and size
      pub size_stored : (x : ℕ)
          → ((vs : List Volume) (e : Entry) → ns ≡ map volume_number vs → ks ≡ map volume_k vs → e.volume.0 ≡ (get_or es i blank_entry).volume.0
          → e.size ≡ (get_or es i blank_entry).size → x ≡ shard_bytes vs e)
          → next ≡ set out i x → SizesLoop es ns ks next (i + 1)
      size_stored x t q =
          record {
            size = rw q (length-set out i x ∙ h.size);
            rows = h.rows;
            stored = λ vs f g. fill_stored (shard_bytes vs) blank_entry es 64 i out next (h.stored vs f g) k x (t vs (get_or es i blank_entry) f g refl refl) q;
          }

pub ruleset stores = (sizes_end, sizes_start, rows_length, rules)

-- a sound volume in use has a K that is not 0
least_k_lem : (t : Tables) (v : Volume) → 0 < v.no.0 → sound_volume t v ≡ true → 1 ≤ v.k
unfolding sound_volume
least_k_lem t v p h =
    let a = is_given t.last_volume v.no.0 && holds_name v.name in
    let b = a && shards_fit v.k v.m in
    let c = b && cap_fits v.cap in
    let d = c && leb v.balance balance_limit in
    let s = sound_status t.clock v.status v.grace v.deleted in
    let r : d && s ≡ true = used_row (free_volume v) (d && s) (ne_eqb v.no.0 0 (omega arith)) h in
    let f = and_right a (shards_fit v.k v.m) (and_left b (cap_fits v.cap) (and_left c (leb v.balance balance_limit) (and_left d s r))) in
    let q : 2 ≤ v.k = leb-true 2 v.k (and_left (leb 2 v.k) (leb v.k 16) (and_left (within 2 16 v.k) (within 1 8 v.m) f)) in
    omega arith

-- a sound entry in use has a size within the limit
most_size : (t : Tables) (e : Entry) → 0 < e.volume.0 → sound_entry t e ≡ true → e.size ≤ size_limit
unfolding sound_entry
most_size t e p h =
    let a = holds is_path e.path in
    let b = leb e.size size_limit in
    let s = sound_in t e.placement (find (is_volume e.volume) t.volumes) in
    let r : a && b && s ≡ true = used_row (free_entry e) (a && b && s) (ne_eqb e.volume.0 0 (omega arith)) h in
    leb-true e.size size_limit (and_right a b (and_left (a && b) s r))

-- so an entry of sound tables can be divided by the K of its volume
divides : (t : Tables) → sound_volumes t ≡ true → sound_entries t ≡ true → (j : ℕ) → j < length t.entries
    → (i : ℕ) (v : Volume) → find (is_volume (get_or t.entries j blank_entry).volume) t.volumes ≡ hit i v
    → ((get_or t.entries j blank_entry).size ≤ size_limit) × (1 ≤ v.k)
unfolding sound_volumes sound_entries
divides t hv he j b i v f =
    let e = get_or t.entries j blank_entry in
    let n = e.volume.0 in
    let p = row_passes (is_volume e.volume) t.volumes 0 i v f in
    let used : 0 < n = ltb-true 0 n (and_left (given n) (eqb v.no.0 n) p) in
    let same : v.no.0 ≡ n = eqb-true v.no.0 n (and_right (given n) (eqb v.no.0 n) p) in
    let rows = all_of (sound_volume t) t.volumes in
    let numbers = no_clash same_volume t.volumes in
    let all = and_left rows numbers (and_left (rows && numbers) (no_clash same_name t.volumes) hv) in
    let row = all_at (sound_volume t) t.volumes all i (found_below (is_volume e.volume) t.volumes i v f) blank_volume in
    let s : sound_volume t v ≡ true = rw (found_at (is_volume e.volume) t.volumes i v f blank_volume) at row in
    let entries = and_left (all_of (sound_entry t) t.entries) (no_clash same_entry t.entries) he in
    (most_size t e used (all_at (sound_entry t) t.entries entries j b blank_entry), least_k_lem t v (omega arith) s)

-- and its shards are no larger than it is
shard_small : (t : Tables) → sound_volumes t ≡ true → sound_entries t ≡ true → (j : ℕ) → j < length t.entries
    → shard_bytes t.volumes (get_or t.entries j blank_entry) ≤ 2 ^ 37
shard_small t hv he j b = go (find (is_volume e.volume) t.volumes) refl
  where
    e : Entry
    e = get_or t.entries j blank_entry

    go : (f : Hit Volume) → find (is_volume e.volume) t.volumes ≡ f → shard_bytes t.volumes e ≤ 2 ^ 37
    go miss q = rw (shard_none t.volumes e q) (omega arith)
    go (hit i v) q =
        let d = divides t hv he j b i v q in
        let some : v.k ≡ 0 → ⊥ = omega (arith, d.1) in
        rw (shard_some t.volumes e i v q) (omega (arith, d.0, ceil_most e.size v.k some))

-- what an entry adds to a relay's load, by the test whether it has a shard there
module _ (n : RelayNo) (e : Entry) where
  shard_on : (used_entry e && holds_shard n e.placement) ≡ true → 1 ≡ shards_on n e
  unfolding shards_on
  shard_on h = rw h

  shard_off : (used_entry e && holds_shard n e.placement) ≡ false → 0 ≡ shards_on n e
  unfolding shards_on
  shard_off h = rw h

  bytes_on_lem : (vs : List Volume) → (used_entry e && holds_shard n e.placement) ≡ true → shard_bytes vs e ≡ bytes_on vs n e
  unfolding bytes_on
  bytes_on_lem vs h = rw h

  bytes_off : (vs : List Volume) → (used_entry e && holds_shard n e.placement) ≡ false → 0 ≡ bytes_on vs n e
  unfolding bytes_on
  bytes_off vs h = rw h

-- what an entry of sound tables has on a relay is small
bytes_most : (vs : List Volume) (n : RelayNo) (e : Entry) → bytes_on vs n e ≤ shard_bytes vs e
unfolding bytes_on
bytes_most vs n e = go (used_entry e && holds_shard n e.placement)
  where
    go : (b : Bool) → cond b (shard_bytes vs e) 0 ≤ shard_bytes vs e
    go true = omega arith
    go false = omega arith

load_small : (t : Tables) (n : RelayNo) → length t.entries ≡ 64 → sound_volumes t ≡ true → sound_entries t ≡ true → sum_of (bytes_on t.volumes n) t.entries ≤ 64 * 2 ^ 37
load_small t n l hv he =
    rw l
    at (sum_le (bytes_on t.volumes n) (2 ^ 37) t.entries blank_entry (λ j b. omega (arith, bytes_most t.volumes n (get_or t.entries j blank_entry), shard_small t hv he j b)))

shards_most : (n : RelayNo) (e : Entry) → shards_on n e ≤ 1
unfolding shards_on
shards_most n e = omega (arith, bit_lt (used_entry e && holds_shard n e.placement))

held_small : (n : RelayNo) (es : List Entry) → length es ≡ 64 → sum_of (shards_on n) es ≤ 64 * 1
held_small n es l = rw l at (sum_le (shards_on n) 1 es blank_entry (λ j b. shards_most n (get_or es j blank_entry)))

-- the entry at i
abbrev pub entry_at : Tables → ℕ → Entry
entry_at t i = get_or t.entries i blank_entry

-- sound tables, whose shards have the sizes ss; hs are the sets of the relays that hold the shards of each entry
pub record Sized (t : Tables) (ss hs : List ℕ) : Type 0 where
  pub size : length t.entries ≡ 64
  pub rows : length t.relays ≡ 32
  pub sized : ss ≡ map (shard_bytes t.volumes) t.entries
  pub differ : no_clash numbered (map relay_number t.relays) ≡ true
  pub held : hs ≡ map (held_set (map relay_number t.relays)) t.entries
  pub volumes : sound_volumes t ≡ true
  pub entries : sound_entries t ≡ true

-- the loop that sums the load of the relay x over their entries, at the entry i
pub record LoadLoop (t : Tables) (ss hs : List ℕ) (x bytes shards i : ℕ) : Type 0 where
  pub known : Sized t ss hs
  pub place : x < 32
  pub used : (get_or t.relays x blank_relay).no.0 ≡ 0 → ⊥
  pub summed : SumLoop (bytes_on t.volumes (get_or t.relays x blank_relay).no) t.entries 64 i bytes
  pub counted : SumLoop (shards_on (get_or t.relays x blank_relay).no) t.entries 64 i shards

module _ (t : Tables) (ss hs : List ℕ) (x : ℕ) where
  abbrev n : RelayNo
  n = (get_or t.relays x blank_relay).no

  abbrev ns : List ℕ
  ns = map relay_number t.relays

  pub load_start : Sized t ss hs → x < 32 → ((get_or t.relays x blank_relay).no.0 ≡ 0 → ⊥) → LoadLoop t ss hs x 0 0 0
  load_start k w u = record { known = k; place = w; used = u; summed = sum_start _ _ 64 k.size; counted = sum_start _ _ 64 k.size }

  module _ (bytes shards i : ℕ) (h : LoadLoop t ss hs x bytes shards i) where
    pub load_bytes : 64 ≤ i → bytes ≡ sum_of (bytes_on t.volumes (get_or t.relays x blank_relay).no) t.entries
    load_bytes k = sum_all (bytes_on t.volumes n) t.entries 64 i bytes h.summed k

    pub load_shards : 64 ≤ i → shards ≡ sum_of (shards_on (get_or t.relays x blank_relay).no) t.entries
    load_shards k = sum_all (shards_on n) t.entries 64 i shards h.counted k

    module _ (k : i < 64) where
      size_at : get_or ss i 0 ≡ shard_bytes t.volumes (entry_at t i)
      size_at =
          ap (λ (l : List ℕ). get_or l i 0) h.known.sized ∙ map_row (shard_bytes t.volumes) t.entries i blank_entry 0 (omega (arith, h.summed.size))

      held_at : get_or hs i 0 ≡ held_set ns (entry_at t i)
      held_at = ap (λ (l : List ℕ). get_or l i 0) h.known.held ∙ map_row (held_set ns) t.entries i blank_entry 0 (omega (arith, h.summed.size))

      number_at : get_or ns x 0 ≡ n.0
      number_at = map_row relay_number t.relays x blank_relay 0 (omega (arith, h.known.rows, h.place))

      module _ (r : Bool) (told : r ≡ eqb (get_or hs i 0 / 2 ^ x % 2) 1) where
        q : r ≡ (used_entry (entry_at t i) && holds_shard n (entry_at t i).placement)
        q =
            held_told ns (entry_at t i) x (get_or hs i 0) r
            (omega (arith, length-map t.relays relay_number, h.known.rows, h.place))
            held_at told
            ∙ rw number_at (held_among (entry_at t i) n h.used)

        pub bytes_fit : r ≡ true → Fits w64 (bytes + get_or ss i 0)
        bytes_fit w =
            let m = sum_within blank_entry (bytes_on t.volumes n) t.entries 64 i bytes h.summed k in
            record { fits = omega (arith, m, size_at, bytes_on_lem n (entry_at t i) t.volumes (sym q ∙ w), load_small t n h.summed.size h.known.volumes h.known.entries) }

        pub shards_fit_lem : r ≡ true → Fits w32 (shards + 1)
        shards_fit_lem w =
            let m = sum_within blank_entry (shards_on n) t.entries 64 i shards h.counted k in
            record { fits = omega (arith, m, shard_on n (entry_at t i) (sym q ∙ w), held_small n t.entries h.counted.size) }

        module _ (b' s' : ℕ) where
          pub load_on : r ≡ true → b' ≡ bytes + get_or ss i 0 → s' ≡ shards + 1 → LoadLoop t ss hs x b' s' (i + 1)
          load_on w f g =
              record {
                known = h.known;
                place = h.place;
                used = h.used;
                summed = sum_adds blank_entry _ _ 64 i bytes (get_or ss i 0) b' h.summed k (size_at ∙ bytes_on_lem n (entry_at t i) t.volumes (sym q ∙ w)) f;
                counted = sum_adds blank_entry _ _ 64 i shards 1 s' h.counted k (shard_on n (entry_at t i) (sym q ∙ w)) g;
              }

          pub load_off : r ≡ false → b' ≡ bytes → s' ≡ shards → LoadLoop t ss hs x b' s' (i + 1)
          load_off w f g =
              rw (f, g)
              (record {
                known = h.known;
                place = h.place;
                used = h.used;
                summed = sum_skips blank_entry _ _ 64 i bytes h.summed k (sym (bytes_off n (entry_at t i) t.volumes (sym q ∙ w)));
                counted = sum_skips blank_entry _ _ 64 i shards h.counted k (sym (shard_off n (entry_at t i) (sym q ∙ w)));
              })
