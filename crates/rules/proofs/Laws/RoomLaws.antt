-- Room and held shards after entries go: a relay has again what the placements give, and the rest of the tables stays sound. Assumes nothing.
use Rattle.std.specs.Prelude.{◌≡◌, Bool, true, false, List, ℕ, eqb, get_or}
use Rattle.std.proofs.Math.Path.{refl}
use Rattle.std.proofs.Common.{◌∙◌, arith, ltb-true, eqb-true, leb-true, le-leb, eq-eqb}
use Rattle.std.proofs.Math.Logic.{⊎_elim}
use Rattle.lists.specs.Lists.{keep, sum_of}
use Rattle.lists.specs.BoolLaws.{and_left, and_right, pass_or_fail, not_pass}
use Rattle.lists.specs.TestLaws.{all_at}
use Rattle.rules.specs.declared.RelayNo.{RelayNo}
use Rattle.rules.specs.declared.Volume.{Volume}
use Rattle.rules.specs.declared.Entry.{Entry}
use Rattle.rules.specs.declared.Relay.{Relay}
use Rattle.rules.specs.declared.Tables.{Tables}
use Rattle.rules.specs.Fresh.{fresh_entry, fresh_relay}
use Rattle.rules.specs.Tables.{given, numbered, used_relay, cleared}
use Rattle.rules.specs.Relays.{bytes_on, shards_on, lightened}
use Rattle.rules.specs.VolumeCalls.{drop_entries}
use Rattle.rules.specs.Sound.{sound_entry, sound_token, sound_relay, volume_there, parent_there, same_entry, same_relay_row}
use Rattle.rules.proofs.Laws.RowFacts.{relay_facts, facts_relay, free_relay_lem, free_entry_lem}
use Rattle.rules.proofs.Laws.RestParts.{Rest}
use Rattle.rules.proofs.Laws.MappedLaws.{all_mapped, clash_mapped}
use Rattle.rules.proofs.Laws.ClearedLaws.{all_cleared, clash_cleared, sum_cleared}
use Rattle.rules.proofs.Laws.LastingLaws.{entry_same}

-- no number is 0
pub no_zero : (n : ℕ) → numbered n 0 ≡ false
no_zero n =
    not_pass (numbered n 0)
    (λ e. omega (arith, ltb-true 0 n (and_left (given n) (eqb 0 n) e), eqb-true 0 n (and_right (given n) (eqb 0 n) e)))

-- a fresh entry is on no relay
pub fresh_bytes : (vs : List Volume) (n : RelayNo) → bytes_on vs n fresh_entry ≡ 0
unfolding bytes_on
fresh_bytes vs n = refl

pub fresh_shards : (n : RelayNo) → shards_on n fresh_entry ≡ 0
unfolding shards_on
fresh_shards n = refl

-- a fresh entry has no other entry's path
fresh_path : (e : Entry) → same_entry fresh_entry e ≡ false
unfolding same_entry
fresh_path e = refl

path_fresh : (e : Entry) → same_entry e fresh_entry ≡ false
unfolding same_entry
path_fresh e = rw (no_zero e.volume.0)

module _ (p : Entry → Bool) (t : Tables) where
  -- each relay gives back exactly what the entries that go had on it
  pub relay_lightened : (r : Relay) → sound_relay t r ≡ true → sound_relay (drop_entries p t) (lightened t.volumes (keep p t.entries) r) ≡ true
  unfolding drop_entries lightened
  relay_lightened r h = ⊎_elim used (free_relay_lem (drop_entries p t) left) (pass_or_fail (used_relay r))
    where
      left : Relay
      left = lightened t.volumes (keep p t.entries) r

      used : used_relay r ≡ true → sound_relay (drop_entries p t) left ≡ true
      used w =
          let f = relay_facts t r w h in
          let bytes = bytes_on t.volumes r.no in
          let shards = shards_on r.no in
          let usedAll = eqb-true r.used (sum_of bytes t.entries) f.used in
          let heldAll = eqb-true r.held (sum_of shards t.entries) f.held in
          let usedLeft = sum_cleared p fresh_entry bytes t.entries (fresh_bytes t.volumes r.no) in
          let heldLeft = sum_cleared p fresh_entry shards t.entries (fresh_shards r.no) in
          facts_relay (drop_entries p t) left
          (record {
            numbered = f.numbered;
            capacity = f.capacity;
            fits = le-leb left.used r.capacity (omega (arith, leb-true r.used r.capacity f.fits));
            beat = f.beat;
            used = eq-eqb left.used (sum_of bytes (cleared p fresh_entry t.entries)) (omega arith);
            held = eq-eqb left.held (sum_of shards (cleared p fresh_entry t.entries)) (omega arith);
          })

  -- entries go, and the rest of the tables stays sound
  pub drop_rest : Rest t → Rest (drop_entries p t)
  unfolding drop_entries sound_token volume_there parent_there lightened
  drop_rest s =
      let u = drop_entries p t in
      let lighter = lightened t.volumes (keep p t.entries) in
      record {
        counts = s.counts;
        volume_numbers = s.volume_numbers;
        volume_names = s.volume_names;
        entries =
            all_cleared p fresh_entry (sound_entry u) t.entries fresh_entry (free_entry_lem u fresh_entry refl)
            (λ j h n.
            entry_same t u refl (get_or t.entries j fresh_entry) refl ∙ all_at (sound_entry t) t.entries s.entries j h fresh_entry);
        entry_paths = clash_cleared p fresh_entry same_entry t.entries fresh_path path_fresh s.entry_paths;
        tokens = s.tokens;
        token_numbers = s.token_numbers;
        relays = all_mapped lighter (sound_relay t) (sound_relay u) t.relays fresh_relay (λ j h e. relay_lightened _ e) s.relays;
        relay_numbers_lem = clash_mapped lighter same_relay_row same_relay_row t.relays (λ x y e. e) s.relay_numbers_lem;
      }
