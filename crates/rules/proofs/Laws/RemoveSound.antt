-- Remove keeps the tables sound. Assumes nothing.
use Rattle.std.specs.Prelude.{◌≡◌, refl, List, map, ℕ, ◌+◌, set}
use Rattle.std.proofs.Common.{◌∙◌, arith}
use Rattle.std.proofs.Math.ListN.{length-set, length-map}
use Rattle.std.proofs.Math.Seq.{map-set_same}
use Rattle.lists.specs.Lists.{hit, find, keep}
use Rattle.lists.specs.SearchLaws.{found_at}
use Rattle.lists.specs.RowLaws.{all_same}
use Rattle.rules.specs.declared.VolumeNo.{VolumeNo}
use Rattle.rules.specs.declared.Volume.{Volume}
use Rattle.rules.specs.declared.Tables.{Tables}
use Rattle.rules.specs.Fresh.{fresh_volume, fresh_entry}
use Rattle.rules.specs.Tables.{is_volume, is_entry, with_version}
use Rattle.rules.specs.Relays.{lightened}
use Rattle.rules.specs.VolumeCalls.{drop_entries, removed}
use Rattle.rules.specs.Sound.{sound_volume}
use Rattle.rules.proofs.Laws.SoundParts.{Parts}
use Rattle.rules.proofs.Laws.Shape.{Shape}
use Rattle.rules.proofs.Laws.RestParts.{rest_of, with_volumes_lem}
use Rattle.rules.proofs.Laws.ClearedLaws.{length_cleared}
use Rattle.rules.proofs.Laws.LastingLaws.{lasting, lasting_change}
use Rattle.rules.proofs.Laws.RoomLaws.{drop_rest}
use Rattle.rules.proofs.Laws.Invariant.{Invariant, Follows}

module _ (n : VolumeNo) (path : List ℕ) (t : Tables) (i : ℕ) (v : Volume) (e : find (is_volume n) t.volumes ≡ hit i v) where
  -- a version more changes nothing that is read of the volume
  same_as : {B : Type 0} (f : Volume → B) → f (with_version v (v.version + 1)) ≡ f v
      → map f (set t.volumes i (with_version v (v.version + 1))) ≡ map f t.volumes
  same_as f q =
      map-set_same f t.volumes i (with_version v (v.version + 1)) fresh_volume
      (rw (found_at (is_volume n) t.volumes i v e fresh_volume) q)

  removed_parts : Parts t → Parts (removed t path i v)
  unfolding drop_entries sound_volume
  removed_parts p =
      with_volumes_lem
      (all_same (sound_volume t) (sound_volume t) (set t.volumes i (with_version v (v.version + 1))) t.volumes (same_as (sound_volume t) refl)
      ∙ p.volumes)
      (lasting_change (drop_entries (is_entry v.no path) t) (set t.volumes i (with_version v (v.version + 1))) (same_as lasting refl)
      (drop_rest (is_entry v.no path) t (rest_of p)))

  removed_shape : Shape t → Shape (removed t path i v)
  unfolding drop_entries
  removed_shape s = record {
    volume_rows_lem = length-set t.volumes i (with_version v (v.version + 1)) ∙ s.volume_rows_lem;
    entry_rows_lem = length_cleared (is_entry v.no path) fresh_entry t.entries ∙ s.entry_rows_lem;
    token_rows_lem = s.token_rows_lem;
    relay_rows_lem = length-map t.relays (lightened t.volumes (keep (is_entry v.no path) t.entries)) ∙ s.relay_rows_lem;
  }

  pub removed_follows : Invariant t → Follows t (removed t path i v)
  unfolding drop_entries
  removed_follows s = record {
    invariant = record { parts = removed_parts s.parts; shape = removed_shape s.shape; family = s.family };
    grown = omega arith;
  }
