-- Volumes are collected: their entries, tokens and rows go together, so each entry and token that stays has its volume in the table, and each
-- token its parent. Assumes nothing.
use Rattle.std.specs.Prelude.{◌≡◌, refl, Bool, true, false, ◌&&◌, List, ℕ, ◌<◌, length, get_or}
use Rattle.std.proofs.Math.Path.{ap}
use Rattle.std.proofs.Common.{◌∙◌}
use Rattle.std.proofs.Math.ListN.{length-map}
use Rattle.lists.specs.Lists.{keep}
use Rattle.lists.specs.TestLaws.{none_at, at_none}
use Rattle.rules.specs.declared.VolumeNo.{VolumeNo}
use Rattle.rules.specs.declared.Volume.{Volume}
use Rattle.rules.specs.declared.Token.{Token}
use Rattle.rules.specs.declared.Tables.{Tables}
use Rattle.rules.specs.Fresh.{no_volume, fresh_volume, fresh_entry, fresh_token}
use Rattle.rules.specs.Tables.{used_volume, used_token, is_volume, with_tokens, cleared}
use Rattle.rules.specs.Relays.{lightened}
use Rattle.rules.specs.VolumeCalls.{drop_entries}
use Rattle.rules.specs.Advance.{is_one_of, entry_of_one, token_of_one, collect}
use Rattle.rules.specs.Sound.{sound_volume, same_volume, same_name}
use Rattle.rules.proofs.Laws.SoundParts.{Parts}
use Rattle.rules.proofs.Laws.Shape.{Shape}
use Rattle.rules.proofs.Laws.Family.{OneVolume, FamilyInOneVolume}
use Rattle.rules.proofs.Laws.RowFacts.{free_volume_lem}
use Rattle.rules.proofs.Laws.RestParts.{Rest, with_volumes_lem}
use Rattle.rules.proofs.Laws.MappedLaws.{map_hit}
use Rattle.rules.proofs.Laws.ClearedLaws.{none_kept, length_cleared, none_cleared, all_cleared, clash_cleared, find_cleared}
use Rattle.rules.proofs.Laws.LastingLaws.{lasting, lasting_of, ReadSame, volumes_change}
use Rattle.rules.proofs.Laws.RoomLaws.{no_zero, drop_rest}
use Rattle.rules.proofs.Laws.TokensGo.{ParentsStay, tokens_go, family_stays}

and_none : (b : Bool) → (b && false) ≡ false
and_none true = refl
and_none false = refl

-- a fresh volume has no other volume's name
name_fresh : (v : Volume) → same_name v fresh_volume ≡ false
unfolding same_name
name_fresh v = rw (and_none (used_volume v))

module _ (p : Volume → Bool) (vs : List Volume) where
  -- a number that is none of those that go finds what it found
  stays_found : (n : VolumeNo) → is_one_of (keep p vs) n ≡ false → lasting_of (cleared p fresh_volume vs) n ≡ lasting_of vs n
  unfolding is_one_of
  stays_found n e =
      ap (map_hit lasting)
      (find_cleared p fresh_volume (is_volume n) 0 vs fresh_volume (no_zero n.0) (λ j h w. none_kept p (is_volume n) vs j fresh_volume e h w))

  -- number 0 is none of them
  none_of_zero : is_one_of (keep p vs) no_volume ≡ false
  unfolding is_one_of
  none_of_zero = at_none (is_volume no_volume) (keep p vs) fresh_volume (λ j h. refl)

  -- the parent of a token whose volume stays is of the same volume
  parents_stay : (ks : List Token) → OneVolume ks → ParentsStay (token_of_one (keep p vs)) ks
  parents_stay ks f j b w g i k e =
      let q : k.volume ≡ (get_or ks j fresh_token).volume = ap (λ (n : ℕ). record { 0 = n }) (f j b w i k e) in
      let s : is_one_of (keep p vs) (get_or ks j fresh_token).volume ≡ false = rw w at g in
      rw (q, s) (and_none (used_token k))

module _ (p : Volume → Bool) (t : Tables) where
  -- the tables with the entries of these volumes gone, and with their tokens gone too
  abbrev entries_gone : Tables
  entries_gone = drop_entries (entry_of_one (keep p t.volumes)) t

  abbrev tokens_gone : Tables
  tokens_gone = with_tokens entries_gone (cleared (token_of_one (keep p t.volumes)) fresh_token t.tokens)

  reads_same : Rest t → ReadSame tokens_gone (cleared p fresh_volume t.volumes)
  unfolding drop_entries same_name
  reads_same s =
      let gone = keep p t.volumes in
      record {
        numbers = clash_cleared p fresh_volume same_volume t.volumes (λ y. refl) (λ x. no_zero x.no.0) s.volume_numbers;
        names = clash_cleared p fresh_volume same_name t.volumes (λ y. refl) name_fresh s.volume_names;
        entries = λ j h.
            stays_found p t.volumes (get_or (cleared (entry_of_one gone) fresh_entry t.entries) j fresh_entry).volume
            (none_at (entry_of_one gone) (cleared (entry_of_one gone) fresh_entry t.entries)
            (none_cleared (entry_of_one gone) fresh_entry t.entries (none_of_zero p t.volumes)) j h fresh_entry);
        tokens = λ j h w.
            stays_found p t.volumes (get_or (cleared (token_of_one gone) fresh_token t.tokens) j fresh_token).volume
            (rw w at (none_at (token_of_one gone) (cleared (token_of_one gone) fresh_token t.tokens)
            (none_cleared (token_of_one gone) fresh_token t.tokens refl) j h fresh_token));
      }

  collect_rest : Rest t → FamilyInOneVolume t → Rest (collect p t)
  unfolding collect drop_entries
  collect_rest s f =
      volumes_change tokens_gone (cleared p fresh_volume t.volumes) (reads_same s)
      (tokens_go (token_of_one (keep p t.volumes)) entries_gone (parents_stay p t.volumes t.tokens f)
      (drop_rest (entry_of_one (keep p t.volumes)) t s))

  -- where each volume that stays is sound
  pub collect_parts : Rest t → FamilyInOneVolume t
      → ((j : ℕ) → j < length t.volumes → p (get_or t.volumes j fresh_volume) ≡ false → sound_volume t (get_or t.volumes j fresh_volume) ≡ true)
      → Parts (collect p t)
  unfolding collect drop_entries sound_volume
  collect_parts s f v =
      with_volumes_lem (all_cleared p fresh_volume (sound_volume t) t.volumes fresh_volume (free_volume_lem t fresh_volume refl) v) (collect_rest s f)

  pub collect_shape : Shape t → Shape (collect p t)
  unfolding collect drop_entries
  collect_shape s = record {
    volume_rows_lem = length_cleared p fresh_volume t.volumes ∙ s.volume_rows_lem;
    entry_rows_lem = length_cleared (entry_of_one (keep p t.volumes)) fresh_entry t.entries ∙ s.entry_rows_lem;
    token_rows_lem = length_cleared (token_of_one (keep p t.volumes)) fresh_token t.tokens ∙ s.token_rows_lem;
    relay_rows_lem = length-map t.relays (lightened t.volumes (keep (entry_of_one (keep p t.volumes)) t.entries)) ∙ s.relay_rows_lem;
  }

  pub collect_family : FamilyInOneVolume t → FamilyInOneVolume (collect p t)
  unfolding collect drop_entries
  collect_family f = family_stays (token_of_one (keep p t.volumes)) t (parents_stay p t.volumes t.tokens f) f
