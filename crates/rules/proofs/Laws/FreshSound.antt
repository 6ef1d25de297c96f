-- A fresh desk is sound, for every rate, and has what every reached desk has. Assumes nothing.
use Rattle.std.specs.Prelude.{◌≡◌, refl, true, ℕ}
use Rattle.std.proofs.Common.{sym, true≢false}
use Rattle.std.proofs.lemmas.List.{get_or-replicate}
use Rattle.lists.specs.Lists.{no_clash}
use Rattle.rules.specs.Limits.{token_rows}
use Rattle.rules.specs.Fresh.{fresh_token, fresh_desk}
use Rattle.rules.specs.Sound.{sound, sound_tables, sound_volumes, sound_entries, sound_tokens, sound_relays, sound_volume, sound_entry, sound_token, sound_relay, sound_session, same_name, same_entry}
use Rattle.rules.proofs.Laws.StaysSound.{DeskInvariant}

pub fresh_sound : (rate : ℕ) → sound (fresh_desk rate) ≡ true
unfolding sound sound_tables sound_volumes sound_entries sound_tokens sound_relays sound_volume sound_entry sound_token sound_relay sound_session same_name same_entry no_clash
fresh_sound rate = refl

pub fresh_holds : (rate : ℕ) → DeskInvariant (fresh_desk rate)
fresh_holds rate = record {
  passes = fresh_sound rate;
  shape = record { volume_rows_lem = refl; entry_rows_lem = refl; token_rows_lem = refl; relay_rows_lem = refl };
  family = λ j h w. absurd (true≢false (sym (rw (get_or-replicate token_rows j fresh_token fresh_token h) at w)));
  slots = refl;
  places = refl;
}
