-- Give-back on a lent relay table is the desk's: where each entry of a list gives a shard back to each relay of its placement, call after call, the
-- relays are left as `lightened` says of the list. Assumes nothing.
use Rattle.std.specs.Prelude.{◌≡◌, refl, Bool, false, ◌&&◌, ◌||◌, ◌+◌, ◌<◌, eqb, leb, length}
use Rattle.std.proofs.Math.Path.{sym, ap}
use Rattle.std.proofs.Common.{◌∙◌, arith, lt-ltb, leb-true}
use Rattle.std.proofs.Math.Bool.{true, cond}
use Rattle.std.proofs.Math.Logic.{⊎_elim}
use mathlib.Core.List.{List, [], ◌∷◌, map}
use Rattle.lists.specs.Lists.{Hit, miss, hit, find, all_of, no_clash}
use Rattle.lists.specs.BoolLaws.{and_left, and_right, and_both, pass_or_fail, not_both}
use Rattle.lists.specs.RowLaws.{map_after}
use Rattle.lists.specs.TestLaws.{all_weaker}
use Rattle.rules.specs.declared.RelayNo.{RelayNo}
use Rattle.rules.specs.declared.Placement.{Placement}
use Rattle.rules.specs.declared.Volume.{Volume}
use Rattle.rules.specs.declared.Entry.{Entry}
use Rattle.rules.specs.declared.Relay.{Relay}
use Rattle.rules.specs.declared.Tables.{Tables}
use Rattle.rules.specs.Limits.{relay_rows, clock_limit}
use Rattle.rules.specs.Relays.{placed_on, same_relay, holds_shard, shard_bytes, lightened}
use Rattle.rules.specs.Sound.{relay_given, sound_placement, sound_in, sound_entry, sound_tables}
use Rattle.rules.specs.Tables.{used_entry, free_entry, is_volume}
use Rattle.rules.proofs.Laws.ApartLaws.{used_not_free, not_free_used, other_part, either_part}
use Rattle.rules.proofs.Laws.RowFacts.{entry_facts, count_facts}
use Rattle.rules.proofs.Laws.SoundParts.{parts_of}
use Rattle.lent_relays.specs.Lent.{table_fits}
use Rattle.lent_relays.proofs.BackLaws.{back_all, given_relay, less_fits, back_all_lem}
use Rattle.lent_relays.specs.FitLaws.{later_fits, mapped_fits, sound_fits}
use Rattle.placing.specs.Room.{lightened_by}
use Rattle.placing.specs.GiveLaws.{after_none, after_first, after_used, after_free, map_same, map_agrees}

-- the relays after each entry of a list gave a shard back to each relay of its placement, by calls on a lent table; a free row gives none
unfoldable pub back_entries : List Volume → List Entry → List Relay → List Relay
back_entries vs [] rows = rows
back_entries vs (e ∷ es) rows = back_entries vs es (cond (used_entry e) (back_all (shard_bytes vs e) (placed_on e.placement) rows) rows)

-- the entry's placement is of different relays, each of a number that was given
abbrev differ : Placement → Bool
differ p = all_of given_relay (placed_on p) && no_clash same_relay (placed_on p)

abbrev pub placed_well : Entry → Bool
placed_well e = free_entry e || differ e.placement

module _ (vs : List Volume) where
  -- one entry
  back_entry : (e : Entry) (rows : List Relay) → table_fits clock_limit rows ≡ true → placed_well e ≡ true
      → cond (used_entry e) (back_all (shard_bytes vs e) (placed_on e.placement) rows) rows ≡ map (lightened vs (e ∷ [])) rows
  unfolding lightened_by holds_shard
  back_entry e rows f w = ⊎_elim used free (pass_or_fail (used_entry e))
    where
      used : used_entry e ≡ true → cond (used_entry e) (back_all (shard_bytes vs e) (placed_on e.placement) rows) rows ≡ map (lightened vs (e ∷ [])) rows
      used u =
          let p = other_part (free_entry e) (differ e.placement) (used_not_free e.volume.0 u) w in
          let ns = placed_on e.placement in
          rw u
          (back_all_lem (shard_bytes vs e) ns rows f (and_left (all_of given_relay ns) (no_clash same_relay ns) p) (and_right (all_of given_relay ns) (no_clash same_relay ns) p)
          ∙ map_agrees (lightened_by (shard_bytes vs e) e.placement) (lightened vs (e ∷ [])) rows (λ r. sym (after_used vs e r u)))

      free : used_entry e ≡ false → cond (used_entry e) (back_all (shard_bytes vs e) (placed_on e.placement) rows) rows ≡ map (lightened vs (e ∷ [])) rows
      free u = rw u (sym (map_same (lightened vs (e ∷ [])) rows (λ r. after_free vs e r u)))

  entry_fits : (e : Entry) (rows : List Relay) → table_fits clock_limit rows ≡ true → table_fits clock_limit (map (lightened vs (e ∷ [])) rows) ≡ true
  unfolding lightened
  entry_fits e rows f = mapped_fits clock_limit (lightened vs (e ∷ [])) rows (λ r. refl) (λ r. less_fits clock_limit r _ _) f

  -- on any table that keeps the limits: the relays that a commit has loaded, too
  pub back_entries_lem : (gone : List Entry) (rows : List Relay) → table_fits clock_limit rows ≡ true → all_of placed_well gone ≡ true → back_entries vs gone rows ≡ map (lightened vs gone) rows
  unfolding back_entries
  back_entries_lem [] rows f w = sym (map_same (lightened vs []) rows (after_none vs))
  back_entries_lem (e ∷ es) rows f w =
      let one = back_entry e rows f (and_left (placed_well e) (all_of placed_well es) w) in
      ap (back_entries vs es) one
      ∙ back_entries_lem es (map (lightened vs (e ∷ [])) rows) (entry_fits e rows f) (and_right (placed_well e) (all_of placed_well es) w)
      ∙ map_after (lightened vs es) (lightened vs (e ∷ [])) (lightened vs (e ∷ es)) rows (λ r. sym (after_first vs e es r))

-- the placement of a sound entry
given_relay_lem : (t : Tables) (n : RelayNo) → relay_given t n ≡ true → given_relay n ≡ true
given_relay_lem t n e = let h : 0 < n.0 = omega (arith, leb-true 1 n.0 (and_left (leb 1 n.0) (leb n.0 t.last_relay) e)) in lt-ltb 0 n.0 h

sound_place : (t : Tables) (p : Placement) (h : Hit Volume) → sound_in t p h ≡ true → differ p ≡ true
unfolding sound_in sound_placement
sound_place t p miss e = absurd (not_both e refl)
sound_place t p (hit i v) e =
    let both = and_left (eqb p.len (v.k + v.m) && all_of (relay_given t) (placed_on p)) (no_clash same_relay (placed_on p)) e in
    let all = and_right (eqb p.len (v.k + v.m)) (all_of (relay_given t) (placed_on p)) both in
    and_both (all_weaker (relay_given t) given_relay (placed_on p) (given_relay_lem t) all)
    (and_right (eqb p.len (v.k + v.m) && all_of (relay_given t) (placed_on p)) (no_clash same_relay (placed_on p)) e)

sound_placed : (t : Tables) (e : Entry) → sound_entry t e ≡ true → placed_well e ≡ true
sound_placed t e s =
    either_part (free_entry e) (differ e.placement)
    (λ f. sound_place t e.placement (find (is_volume e.volume) t.volumes) (entry_facts t e (not_free_used e.volume.0 f) s).place)

-- on the relays of a sound desk, for entries that are sound there
pub give_back_same : (t : Tables) (gone : List Entry) → sound_tables t ≡ true → length t.relays ≡ relay_rows → all_of (sound_entry t) gone ≡ true
    → back_entries t.volumes gone t.relays ≡ map (lightened t.volumes gone) t.relays
give_back_same t gone h l s =
    let c = count_facts t (parts_of t h).counts in
    back_entries_lem t.volumes gone t.relays
    (later_fits t.clock clock_limit t.relays (leb-true t.clock clock_limit c.clock) (omega arith) (sound_fits t h l))
    (all_weaker (sound_entry t) placed_well gone (sound_placed t) s)
