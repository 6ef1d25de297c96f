-- The parts of the test of the tables beside the test of each volume's own row: while an advance settles rents, that row may hold a grace
-- count that only the collection after it takes out. Assumes nothing.
use Rattle.std.specs.Prelude.{◌≡◌, true}
use Rattle.lists.specs.Lists.{all_of, no_clash}
use Rattle.rules.specs.declared.Tables.{Tables}
use Rattle.rules.specs.Sound.{sound_counts, sound_volume, sound_entry, sound_token, sound_relay, same_volume, same_name, same_entry, same_token, same_relay_row}
use Rattle.rules.proofs.Laws.SoundParts.{Parts}

pub record Rest (t : Tables) : Type 0 where
  pub counts : sound_counts t ≡ true
  pub volume_numbers : no_clash same_volume t.volumes ≡ true
  pub volume_names : no_clash same_name t.volumes ≡ true
  pub entries : all_of (sound_entry t) t.entries ≡ true
  pub entry_paths : no_clash same_entry t.entries ≡ true
  pub tokens : all_of (sound_token t) t.tokens ≡ true
  pub token_numbers : no_clash same_token t.tokens ≡ true
  pub relays : all_of (sound_relay t) t.relays ≡ true
  pub relay_numbers_lem : no_clash same_relay_row t.relays ≡ true

pub rest_of : {t : Tables} → Parts t → Rest t
rest_of p = record {
  counts = p.counts;
  volume_numbers = p.volume_numbers;
  volume_names = p.volume_names;
  entries = p.entries;
  entry_paths = p.entry_paths;
  tokens = p.tokens;
  token_numbers = p.token_numbers;
  relays = p.relays;
  relay_numbers_lem = p.relay_numbers_lem;
}

pub with_volumes_lem : {t : Tables} → all_of (sound_volume t) t.volumes ≡ true → Rest t → Parts t
with_volumes_lem v p = record {
  counts = p.counts;
  volumes = v;
  volume_numbers = p.volume_numbers;
  volume_names = p.volume_names;
  entries = p.entries;
  entry_paths = p.entry_paths;
  tokens = p.tokens;
  token_numbers = p.token_numbers;
  relays = p.relays;
  relay_numbers_lem = p.relay_numbers_lem;
}
