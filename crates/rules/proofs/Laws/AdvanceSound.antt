-- Advance keeps the tables sound: the clock goes on, relays leave, rents are settled at an epoch end, and what is due is collected. Assumes
-- nothing.
use Rattle.std.specs.Prelude.{◌≡◌, Bool, true, false, ◌||◌, ℕ, ◌<◌, ◌≤◌, leb, ltb, length, get_or}
use Rattle.std.proofs.Math.Path.{refl}
use Rattle.std.proofs.Common.{◌∙◌, arith, ltb-false, le-leb}
use Rattle.lists.specs.BoolLaws.{or_left, or_right}
use Rattle.lists.specs.TestLaws.{all_at, all_weaker}
use Rattle.rules.specs.declared.Tables.{Tables}
use Rattle.rules.specs.Limits.{clock_limit}
use Rattle.rules.specs.Fresh.{fresh_volume, fresh_relay}
use Rattle.rules.specs.Tables.{with_clock}
use Rattle.rules.specs.Relays.{is_dead}
use Rattle.rules.specs.Rent.{epoch_ends}
use Rattle.rules.specs.VolumeCalls.{drop_entries}
use Rattle.rules.specs.Advance.{relays_leave, settle, is_due, collect, at_epoch, advanced, bad_block}
use Rattle.rules.specs.Sound.{sound_volume, sound_entry, sound_token, sound_relay, volume_there, parent_there, same_relay_row}
use Rattle.rules.proofs.Laws.SoundParts.{Parts}
use Rattle.rules.proofs.Laws.Shape.{Shape}
use Rattle.rules.proofs.Laws.Family.{FamilyInOneVolume}
use Rattle.rules.proofs.Laws.RowFacts.{free_relay_lem, count_facts, facts_counts}
use Rattle.rules.proofs.Laws.RowsKept.{Grown, volume_grown, entry_grown, relay_grown, token_stays}
use Rattle.rules.proofs.Laws.Invariant.{Invariant, Follows}
use Rattle.rules.proofs.Laws.RestParts.{Rest, rest_of}
use Rattle.rules.proofs.Laws.ClearedLaws.{length_cleared, all_cleared, clash_cleared}
use Rattle.rules.proofs.Laws.LastingLaws.{entry_same}
use Rattle.rules.proofs.Laws.RoomLaws.{no_zero}
use Rattle.rules.proofs.Laws.CollectSound.{collect_parts, collect_shape, collect_family}
use Rattle.rules.proofs.Laws.SettleSound.{settle_sound, settle_rest, settle_shape}

-- the clock goes on
module _ (t : Tables) (block : ℕ) (later : t.clock ≤ block) (limit : block ≤ clock_limit) where
  clock_grown : Grown t (with_clock t block)
  clock_grown = omega arith

  clock_parts : Parts t → Parts (with_clock t block)
  clock_parts p =
      let u = with_clock t block in
      let f = count_facts t p.counts in
      record {
        counts =
            facts_counts u
            (record {
              clock = le-leb block clock_limit limit;
              deposits = f.deposits;
              volumes = f.volumes;
              tokens = f.tokens;
              relays = f.relays;
            });
        volumes = all_weaker (sound_volume t) (sound_volume u) t.volumes (volume_grown t u clock_grown) p.volumes;
        volume_numbers = p.volume_numbers;
        volume_names = p.volume_names;
        entries = all_weaker (sound_entry t) (sound_entry u) t.entries (entry_grown t u clock_grown refl) p.entries;
        entry_paths = p.entry_paths;
        tokens = all_weaker (sound_token t) (sound_token u) t.tokens (token_stays t u clock_grown refl refl) p.tokens;
        token_numbers = p.token_numbers;
        relays = all_weaker (sound_relay t) (sound_relay u) t.relays (relay_grown t u clock_grown refl refl) p.relays;
        relay_numbers_lem = p.relay_numbers_lem;
      }

  clock_shape : Shape t → Shape (with_clock t block)
  clock_shape s = record { volume_rows_lem = s.volume_rows_lem; entry_rows_lem = s.entry_rows_lem; token_rows_lem = s.token_rows_lem; relay_rows_lem = s.relay_rows_lem }

-- relays leave
module _ (t : Tables) where
  leave_parts : Parts t → Parts (relays_leave t)
  unfolding relays_leave sound_volume sound_token sound_relay volume_there parent_there
  leave_parts p =
      let u = relays_leave t in
      record {
        counts = p.counts;
        volumes = p.volumes;
        volume_numbers = p.volume_numbers;
        volume_names = p.volume_names;
        entries = all_weaker (sound_entry t) (sound_entry u) t.entries (λ x h. entry_same t u refl x refl ∙ h) p.entries;
        entry_paths = p.entry_paths;
        tokens = p.tokens;
        token_numbers = p.token_numbers;
        relays =
            all_cleared (is_dead t.clock) fresh_relay (sound_relay u) t.relays fresh_relay (free_relay_lem u fresh_relay refl)
            (λ j b n. all_at (sound_relay t) t.relays p.relays j b fresh_relay);
        relay_numbers_lem =
            clash_cleared (is_dead t.clock) fresh_relay same_relay_row t.relays (λ y. refl) (λ x. no_zero x.no.0) p.relay_numbers_lem;
      }

  leave_shape : Shape t → Shape (relays_leave t)
  unfolding relays_leave
  leave_shape s = record {
    volume_rows_lem = s.volume_rows_lem;
    entry_rows_lem = s.entry_rows_lem;
    token_rows_lem = s.token_rows_lem;
    relay_rows_lem = length_cleared (is_dead t.clock) fresh_relay t.relays ∙ s.relay_rows_lem;
  }

-- what is due is collected, from tables that may follow t and in which each volume that is not due is sound
collect_follows : (c : ℕ) (t u : Tables) → Rest u → Shape u → FamilyInOneVolume u → Grown t u
    → ((j : ℕ) → j < length u.volumes → is_due c (get_or u.volumes j fresh_volume) ≡ false → sound_volume u (get_or u.volumes j fresh_volume) ≡ true)
    → Follows t (collect (is_due c) u)
unfolding collect drop_entries
collect_follows c t u r s f g v = record {
  invariant = record {
    parts = collect_parts (is_due c) u r f v;
    shape = collect_shape (is_due c) u s;
    family = collect_family (is_due c) u f;
  };
  grown = record { clock = g.clock; volumes = g.volumes; tokens = g.tokens; relays = g.relays };
}

-- rents are settled before that at an epoch end
due_follows : (t u : Tables) → Invariant u → Grown t u → (end : Bool) → Follows t (collect (is_due u.clock) (at_epoch end u))
unfolding at_epoch settle
due_follows t u s g true =
    collect_follows u.clock t (settle u) (settle_rest u (rest_of s.parts)) (settle_shape u s.shape) s.family
    (record { clock = g.clock; volumes = g.volumes; tokens = g.tokens; relays = g.relays }) (settle_sound u s.parts)
due_follows t u s g false =
    collect_follows u.clock t u (rest_of s.parts) s.shape s.family g
    (λ j b n. all_at (sound_volume u) u.volumes s.parts.volumes j b fresh_volume)

module _ (block : ℕ) (t : Tables) (s : Invariant t) where
  advanced_follows : t.clock ≤ block → block ≤ clock_limit → Follows t (advanced t block)
  unfolding advanced relays_leave
  advanced_follows later limit =
      let u = with_clock t block in
      let g = clock_grown t block later limit in
      due_follows t (relays_leave u)
      (record {
        parts = leave_parts u (clock_parts t block later limit s.parts);
        shape = leave_shape u (clock_shape t block later limit s.shape);
        family = s.family;
      })
      (record { clock = g.clock; volumes = g.volumes; tokens = g.tokens; relays = g.relays })
      (leb 1 (epoch_ends t.clock block))

  pub advance_follows : bad_block t.clock block ≡ false → Follows t (advanced t block)
  advance_follows b =
      let n = or_left (ltb block t.clock || ltb clock_limit block) (leb 2 (epoch_ends t.clock block)) b in
      advanced_follows (ltb-false block t.clock (or_left (ltb block t.clock) (ltb clock_limit block) n))
      (ltb-false clock_limit block (or_right (ltb block t.clock) (ltb clock_limit block) n))
