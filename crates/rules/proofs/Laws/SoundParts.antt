-- The test of the tables taken apart: it passes exactly where each of its parts does, and each part is a fact of its own.
use Rattle.std.specs.Prelude.{◌≡◌, true, ◌&&◌}
use Rattle.lists.specs.Lists.{all_of, no_clash}
use Rattle.lists.specs.BoolLaws.{and_left, and_right, and_both}
use Rattle.rules.specs.declared.Tables.{Tables}
use Rattle.rules.specs.declared.Desk.{Desk}
use Rattle.rules.specs.Sound.{sound_counts, sound_volume, sound_entry, sound_token, sound_relay, same_volume, same_name, same_entry, same_token, same_relay_row, sound_volumes, sound_entries, sound_tokens, sound_relays, sound_tables, sound_session, sound}

pub record Parts (t : Tables) : Type 0 where
  pub counts : sound_counts t ≡ true
  pub volumes : all_of (sound_volume t) t.volumes ≡ true
  pub volume_numbers : no_clash same_volume t.volumes ≡ true
  pub volume_names : no_clash same_name t.volumes ≡ true
  pub entries : all_of (sound_entry t) t.entries ≡ true
  pub entry_paths : no_clash same_entry t.entries ≡ true
  pub tokens : all_of (sound_token t) t.tokens ≡ true
  pub token_numbers : no_clash same_token t.tokens ≡ true
  pub relays : all_of (sound_relay t) t.relays ≡ true
  pub relay_numbers_lem : no_clash same_relay_row t.relays ≡ true

module _ (t : Tables) where
  pub parts_of : sound_tables t ≡ true → Parts t
  unfolding sound_tables sound_volumes sound_entries sound_tokens sound_relays
  parts_of h =
      let h₃ = and_left (sound_counts t && sound_volumes t && sound_entries t && sound_tokens t) (sound_relays t) h in
      let r = and_right (sound_counts t && sound_volumes t && sound_entries t && sound_tokens t) (sound_relays t) h in
      let h₂ = and_left (sound_counts t && sound_volumes t && sound_entries t) (sound_tokens t) h₃ in
      let k = and_right (sound_counts t && sound_volumes t && sound_entries t) (sound_tokens t) h₃ in
      let h₁ = and_left (sound_counts t && sound_volumes t) (sound_entries t) h₂ in
      let e = and_right (sound_counts t && sound_volumes t) (sound_entries t) h₂ in
      let v = and_right (sound_counts t) (sound_volumes t) h₁ in
      let vn = and_left (all_of (sound_volume t) t.volumes && no_clash same_volume t.volumes) (no_clash same_name t.volumes) v in
      record {
        counts = and_left (sound_counts t) (sound_volumes t) h₁;
        volumes = and_left (all_of (sound_volume t) t.volumes) (no_clash same_volume t.volumes) vn;
        volume_numbers = and_right (all_of (sound_volume t) t.volumes) (no_clash same_volume t.volumes) vn;
        volume_names = and_right (all_of (sound_volume t) t.volumes && no_clash same_volume t.volumes) (no_clash same_name t.volumes) v;
        entries = and_left (all_of (sound_entry t) t.entries) (no_clash same_entry t.entries) e;
        entry_paths = and_right (all_of (sound_entry t) t.entries) (no_clash same_entry t.entries) e;
        tokens = and_left (all_of (sound_token t) t.tokens) (no_clash same_token t.tokens) k;
        token_numbers = and_right (all_of (sound_token t) t.tokens) (no_clash same_token t.tokens) k;
        relays = and_left (all_of (sound_relay t) t.relays) (no_clash same_relay_row t.relays) r;
        relay_numbers_lem = and_right (all_of (sound_relay t) t.relays) (no_clash same_relay_row t.relays) r;
      }

  pub of_parts : Parts t → sound_tables t ≡ true
  unfolding sound_tables sound_volumes sound_entries sound_tokens sound_relays
  of_parts p =
      and_both
      (and_both
      (and_both
      (and_both p.counts (and_both (and_both p.volumes p.volume_numbers) p.volume_names))
      (and_both p.entries p.entry_paths))
      (and_both p.tokens p.token_numbers))
      (and_both p.relays p.relay_numbers_lem)

module _ (d : Desk) where
  pub tables_sound : sound d ≡ true → Parts d.tables
  unfolding sound
  tables_sound h = parts_of d.tables (and_left (sound_tables d.tables) (all_of (sound_session d.tables) d.sessions) h)

  pub slots_sound : sound d ≡ true → all_of (sound_session d.tables) d.sessions ≡ true
  unfolding sound
  slots_sound h = and_right (sound_tables d.tables) (all_of (sound_session d.tables) d.sessions) h

  pub desk_sound : Parts d.tables → all_of (sound_session d.tables) d.sessions ≡ true → sound d ≡ true
  unfolding sound
  desk_sound p s = and_both (of_parts d.tables p) s
