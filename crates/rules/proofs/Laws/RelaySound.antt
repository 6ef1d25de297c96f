-- Register and heartbeat leave sound tables sound. Assumes nothing.
use Rattle.std.specs.Prelude.{◌≡◌, refl, true, false, ◌&&◌, List, ℕ, ◌+◌, ◌≤◌, ◌<◌, leb, ltb, length, set}
use Rattle.std.proofs.Common.{ap, sym, ◌∙◌, ⊎_elim, length-set}
use Rattle.std.proofs.lemmas.Bool.{false≢true}
use native.Mathlib.Omega.{arith}
use borrow.Author.Tests.{leb-false, le-leb, ltb-false, eq-eqb, eqb-true}
use Rattle.std.proofs.Math.ListN.{get_or}
use Rattle.lists.specs.Lists.{Hit, miss, hit, find, all_of, sum_of, no_clash}
use Rattle.lists.specs.BoolLaws.{and_left, and_right, pass_or_fail, not_pass}
use Rattle.lists.specs.TestLaws.{all_at, at_none, all_weaker}
use Rattle.lists.specs.SearchLaws.{found_at, row_passes}
use Rattle.lists.specs.SumLaws.{sum_le}
use Rattle.rules.specs.declared.RelayNo.{RelayNo}
use Rattle.rules.specs.declared.Volume.{Volume}
use Rattle.rules.specs.declared.Placement.{Placement}
use Rattle.rules.specs.declared.Entry.{Entry}
use Rattle.rules.specs.declared.Relay.{Relay}
use Rattle.rules.specs.declared.Tables.{Tables}
use Rattle.rules.specs.Limits.{capacity_limit, last_number}
use Rattle.rules.specs.Fresh.{no_relay, fresh_entry, fresh_relay}
use Rattle.rules.specs.Tables.{used_entry, used_relay, is_relay, is_volume, relay_of, with_relays, with_last_relay, with_beat}
use Rattle.rules.specs.Relays.{placed_on, same_relay, holds_shard, bytes_on, shards_on}
use Rattle.rules.specs.Sound.{relay_given, sound_placement, sound_in, sound_volume, sound_entry, sound_token, sound_relay, same_relay_row}
use Rattle.rules.specs.RelayCalls.{new_relay, registered, heartbeat_at}
use Rattle.rules.proofs.Laws.SetLaws.{all_set}
use Rattle.rules.proofs.Laws.NumberLaws.{numbered_used, found_passes, same_number_lem, new_number}
use Rattle.rules.proofs.Laws.RowFacts.{entry_facts, relay_facts, facts_relay, count_facts, facts_counts}
use Rattle.rules.proofs.Laws.RowsKept.{Grown, given_le, le_given, volume_grown, entry_grown, relay_grown, token_stays}
use Rattle.rules.proofs.Laws.Invariant.{Whole, Keeps, keeps_on, counts_grow}

-- no sound entry has a shard on a relay whose number was not given
module _ (t : Tables) (n : RelayNo) (new : t.last_relay < n.0) where
  placed_given : (p : Placement) → all_of (relay_given t) (placed_on p) ≡ true → holds_shard n p ≡ false
  unfolding holds_shard
  placed_given p h =
      at_none (same_relay n) (placed_on p) no_relay
      (λ j k.
      let m = get_or (placed_on p) j no_relay in
      not_pass (same_relay n m)
      (λ e. omega (arith, given_le t.last_relay m.0 (all_at (relay_given t) (placed_on p) h j k no_relay), eqb-true m.0 n.0 e)))

  in_given : (p : Placement) (h : Hit Volume) → sound_in t p h ≡ true → holds_shard n p ≡ false
  unfolding sound_in sound_placement
  in_given p miss e = absurd (false≢true e)
  in_given p (hit i v) e = placed_given p (search (and_left, and_right))

  no_shard : (e : Entry) → sound_entry t e ≡ true → (used_entry e && holds_shard n e.placement) ≡ false
  no_shard e h = ⊎_elim used (λ w. rw w) (pass_or_fail (used_entry e))
    where
      used : used_entry e ≡ true → (used_entry e && holds_shard n e.placement) ≡ false
      used w = rw (w, in_given e.placement (find (is_volume e.volume) t.volumes) (entry_facts t e w h).place)

  no_bytes : (vs : List Volume) → all_of (sound_entry t) t.entries ≡ true → sum_of (bytes_on vs n) t.entries ≡ 0
  unfolding bytes_on
  no_bytes vs h =
      let b =
      sum_le (bytes_on vs n) 0 t.entries fresh_entry
      (λ j k. rw (no_shard (get_or t.entries j fresh_entry) (all_at (sound_entry t) t.entries h j k fresh_entry)) (omega arith)) in
      omega arith

  no_shards : all_of (sound_entry t) t.entries ≡ true → sum_of (shards_on n) t.entries ≡ 0
  unfolding shards_on
  no_shards h =
      let b =
      sum_le (shards_on n) 0 t.entries fresh_entry
      (λ j k. rw (no_shard (get_or t.entries j fresh_entry) (all_at (sound_entry t) t.entries h j k fresh_entry)) (omega arith)) in
      omega arith

-- relays change: each is sound, and no two have one number
relays_change : (t : Tables) (rs : List Relay) → Whole t → length rs ≡ length t.relays → all_of (sound_relay t) rs ≡ true
    → no_clash same_relay_row rs ≡ true → Keeps t (with_relays t rs)
relays_change t rs i l a c =
    let u = with_relays t rs in
    let g : Grown t u = omega arith in
    let p = i.parts in
    record {
      grown = g;
      family = λ f. f;
      whole = record {
        shape = record {
          volume_rows_lem = i.shape.volume_rows_lem;
          entry_rows_lem = i.shape.entry_rows_lem;
          token_rows_lem = i.shape.token_rows_lem;
          relay_rows_lem = l ∙ i.shape.relay_rows_lem;
        };
        parts = record {
          counts = p.counts;
          volumes = all_weaker (sound_volume t) (sound_volume u) t.volumes (volume_grown t u g) p.volumes;
          volume_numbers = p.volume_numbers;
          volume_names = p.volume_names;
          entries = all_weaker (sound_entry t) (sound_entry u) t.entries (entry_grown t u g refl) p.entries;
          entry_paths = p.entry_paths;
          tokens = all_weaker (sound_token t) (sound_token u) t.tokens (token_stays t u g refl refl) p.tokens;
          token_numbers = p.token_numbers;
          relays = all_weaker (sound_relay t) (sound_relay u) rs (relay_grown t u g refl refl) a;
          relay_numbers_lem = c;
        };
      };
    }

-- a relay's number is at most the last one
relay_le : (t : Tables) (r : Relay) → sound_relay t r ≡ true → r.no.0 ≤ t.last_relay
relay_le t r h =
    ⊎_elim (λ u. given_le t.last_relay r.no.0 (relay_facts t r u h).numbered) (λ u. omega (arith, ltb-false 0 r.no.0 u))
    (pass_or_fail (used_relay r))

module _ (t : Tables) (inv : Whole t) where
  -- a new relay, of the next number and with nothing used, in the place of any row
  module _ (room : t.last_relay < last_number) (i : ℕ) (r : Relay) (numbers : r.no.0 ≡ t.last_relay + 1)
      (fits : r.capacity ≤ capacity_limit) (unused : r.used ≡ 0) (unheld : r.held ≡ 0) (now : r.beat ≡ t.clock) where
    abbrev n : ℕ
    n = t.last_relay + 1

    -- the number is given first
    abbrev u : Tables
    u = with_last_relay t n

    given_first : Keeps t u
    given_first =
        let f = count_facts t inv.parts.counts in
        counts_grow t t.clock t.last_volume t.last_token n t.deposits inv (omega arith)
        (facts_counts u
        (record { clock = f.clock; deposits = f.deposits; volumes = f.volumes; tokens = f.tokens; relays = le-leb n last_number (omega arith) }))

    new_sound : sound_relay u r ≡ true
    new_sound =
        let e = inv.parts.entries in
        facts_relay u r
        (record {
          numbered = le_given n r.no.0 (omega arith) (omega arith);
          capacity = le-leb r.capacity capacity_limit fits;
          fits = le-leb r.used r.capacity (omega arith);
          beat = le-leb r.beat t.clock (omega arith);
          used = eq-eqb r.used (sum_of (bytes_on t.volumes r.no) t.entries) (unused ∙ sym (no_bytes t r.no (omega arith) t.volumes e));
          held = eq-eqb r.held (sum_of (shards_on r.no) t.entries) (unheld ∙ sym (no_shards t r.no (omega arith) e));
        })

    register_new : Keeps t (with_relays u (set t.relays i r))
    register_new =
        keeps_on given_first
        (relays_change u (set t.relays i r) given_first.whole (length-set t.relays i r)
        (all_set (sound_relay u) t.relays i r given_first.whole.parts.relays new_sound)
        (new_number (λ x. x.no.0) t.relays i r inv.parts.relay_numbers_lem
        (λ j k. omega (arith, relay_le t (get_or t.relays j r) (all_at (sound_relay t) t.relays inv.parts.relays j k r)))))

  -- a heartbeat of the relay that a search found
  module _ (n : RelayNo) (i : ℕ) (r : Relay) (found : relay_of n t ≡ hit i r) where
    abbrev beating : Relay
    beating = with_beat r t.clock

    beat_sound : sound_relay t beating ≡ true
    unfolding relay_of
    beat_sound =
        let u = numbered_used n.0 r.no.0 (row_passes (is_relay n) t.relays 0 i r found) in
        let f = relay_facts t r u (found_passes (is_relay n) (sound_relay t) t.relays i r inv.parts.relays found) in
        facts_relay t beating
        (record {
          numbered = f.numbered;
          capacity = f.capacity;
          fits = f.fits;
          beat = le-leb t.clock t.clock (omega arith);
          used = f.used;
          held = f.held;
        })

    pub beat_keeps : Keeps t (heartbeat_at t i r)
    unfolding relay_of
    beat_keeps =
        relays_change t (set t.relays i beating) inv (length-set t.relays i beating)
        (all_set (sound_relay t) t.relays i beating inv.parts.relays beat_sound)
        (same_number_lem (λ x. x.no.0) t.relays i beating fresh_relay (ap (λ (x : Relay). x.no.0) (sym (found_at (is_relay n) t.relays i r found fresh_relay)))
        ∙ inv.parts.relay_numbers_lem)

  pub register_keeps : (capacity i : ℕ) → ltb capacity_limit capacity ≡ false → leb last_number t.last_relay ≡ false
      → Keeps t (registered t i (new_relay (t.last_relay + 1) capacity t.clock))
  register_keeps capacity i p q = register_new (leb-false last_number t.last_relay q) i _ (omega arith) (ltb-false capacity_limit capacity p) refl refl refl
