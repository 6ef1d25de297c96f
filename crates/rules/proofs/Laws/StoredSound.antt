-- New entries are stored, their relays loaded, and the replaced entries give their room back: what is left is sound. Assumes nothing.
use Rattle.std.specs.Prelude.{◌≡◌, ◌||◌, List, map, ℕ, ◌+◌, ◌-◌, leb, get_or}
use Rattle.std.proofs.Math.Path.{refl}
use Rattle.std.proofs.Common.{◌∙◌, arith}
use Rattle.std.proofs.Math.Bool.{Bool, true}
use Rattle.std.proofs.Math.Logic.{⊎_elim}
use Rattle.std.proofs.Math.Dec.{eqb}
use borrow.Author.Tests.{leb-true, le-leb, eqb-true, eq-eqb}
use Rattle.lists.specs.Lists.{hit, find, all_of, keep, sum_of}
use Rattle.lists.specs.BoolLaws.{and_left, and_right, pass_or_fail}
use Rattle.lists.specs.TestLaws.{all_at, all_weaker}
use Rattle.text.specs.Text.{path_limit, is_path, holds, text_bytes}
use Rattle.rules.proofs.Laws.HeldText.{path_held}
use Rattle.rules.specs.declared.RelayNo.{RelayNo}
use Rattle.rules.specs.declared.Volume.{Volume}
use Rattle.rules.specs.declared.Entry.{Entry}
use Rattle.rules.specs.declared.Relay.{Relay}
use Rattle.rules.specs.declared.Tables.{Tables}
use Rattle.rules.specs.Limits.{size_limit}
use Rattle.rules.specs.Fresh.{fresh_relay}
use Rattle.rules.specs.Tables.{used_relay, free_entry, is_volume, with_entries, with_relays}
use Rattle.rules.specs.Relays.{bytes_on, shards_on, lightened}
use Rattle.rules.specs.Sound.{sound_placement, sound_in, sound_entry, sound_token, sound_relay, sound_put, volume_there, parent_there, same_relay_row}
use Rattle.rules.proofs.Laws.RowFacts.{or_last, facts_entry, relay_facts, facts_relay, free_relay_lem}
use Rattle.rules.proofs.Laws.RestParts.{Rest}
use Rattle.rules.proofs.Laws.MappedLaws.{all_mapped, clash_mapped}
use Rattle.rules.proofs.Laws.LastingLaws.{entry_same}
use Rattle.rules.proofs.Laws.ApartLaws.{free_not_used}
use Rattle.rules.proofs.Laws.PlaceLaws.{fits_relay, fit_facts, facts_fit}
use Rattle.rules.proofs.Laws.LoadLaws.{Staged, entry_in, with_shards}
use Rattle.rules.proofs.Laws.StoreLaws.{stored, replaced_by, Ready, stored_apart, stored_rows, stored_sum}

-- a free row has nothing on any relay
free_bytes : (vs : List Volume) (n : RelayNo) (e : Entry) → free_entry e ≡ true → bytes_on vs n e ≡ 0
unfolding bytes_on
free_bytes vs n e f = rw (free_not_used e.volume.0 f)

free_shards : (n : RelayNo) (e : Entry) → free_entry e ≡ true → shards_on n e ≡ 0
unfolding shards_on
free_shards n e f = rw (free_not_used e.volume.0 f)

-- a sound relay fits
pub relay_fits : (t : Tables) (r : Relay) → sound_relay t r ≡ true → fits_relay t.last_relay r ≡ true
relay_fits t r h =
    facts_fit t.last_relay r
    (λ u. let f = relay_facts t r u h in record { numbered = f.numbered; within = leb-true r.used r.capacity f.fits })

-- the entry of a sound put is sound
pub new_entry : (t : Tables) (v : Volume) (i : ℕ) → find (is_volume v.no) t.volumes ≡ hit i v → (z : Staged)
    → sound_put z.0 ≡ true → sound_placement t v z.1 ≡ true → sound_entry t (entry_in v.no z) ≡ true
unfolding sound_put sound_in
new_entry t v i found z p q =
    facts_entry t (entry_in v.no z)
    (record {
      path = path_held (text_bytes z.0.path) (and_right (leb z.0.path.len path_limit) (is_path (text_bytes z.0.path)) (and_left (holds is_path z.0.path) (leb z.0.size size_limit) p));
      size = and_right (holds is_path z.0.path) (leb z.0.size size_limit) p;
      place = rw found q;
    })

-- what is left of the bytes on a relay, or of its shards, when some came and then some went
came_went : (before came went after used : ℕ) → after + went ≡ before + came → used ≡ before → used + came - went ≡ after
came_went before came went after used e f = omega arith

-- new entries are stored and loaded onto the relays, then the replaced ones give their room back
abbrev pub gone_from : Tables → List Entry → List Entry
gone_from t news = keep (replaced_by news) t.entries

abbrev pub relay_after : Tables → List Entry → Relay → Relay
relay_after t news r = lightened t.volumes (gone_from t news) (with_shards t.volumes news r)

abbrev pub stored_in : Tables → List Entry → Tables
stored_in t news = with_relays (with_entries t (stored news t.entries)) (map (relay_after t news) t.relays)

module _ (t : Tables) (news : List Entry) (ready : Ready news t.entries) where
  -- each relay holds what the entries have on it
  relay_after_lem : (r : Relay) → sound_relay t r ≡ true → fits_relay t.last_relay (with_shards t.volumes news r) ≡ true
      → sound_relay (stored_in t news) (relay_after t news r) ≡ true
  unfolding lightened
  relay_after_lem r h k = ⊎_elim used (free_relay_lem (stored_in t news) (relay_after t news r)) (pass_or_fail (used_relay r))
    where
      after_sum : (f : Entry → ℕ) → ((e : Entry) → free_entry e ≡ true → f e ≡ 0) → (n : ℕ) → eqb n (sum_of f t.entries) ≡ true
          → eqb (n + sum_of f news - sum_of f (gone_from t news)) (sum_of f (stored news t.entries)) ≡ true
      after_sum f z n e =
          eq-eqb (n + sum_of f news - sum_of f (gone_from t news)) (sum_of f (stored news t.entries))
          (came_went (sum_of f t.entries) (sum_of f news) (sum_of f (gone_from t news)) (sum_of f (stored news t.entries)) n
          (stored_sum f z news t.entries ready) (eqb-true n (sum_of f t.entries) e))

      used : used_relay r ≡ true → sound_relay (stored_in t news) (relay_after t news r) ≡ true
      used w =
          let f = relay_facts t r w h in
          let bytes = bytes_on t.volumes r.no in
          let fits = fit_facts t.last_relay (with_shards t.volumes news r) w k in
          facts_relay (stored_in t news) (relay_after t news r)
          (record {
            numbered = f.numbered;
            capacity = f.capacity;
            fits = le-leb (r.used + sum_of bytes news - sum_of bytes (gone_from t news)) r.capacity (omega (arith, fits.within));
            beat = f.beat;
            used = after_sum bytes (free_bytes t.volumes r.no) r.used f.used;
            held = after_sum (shards_on r.no) (free_shards r.no) r.held f.held;
          })

  -- and the rest of the tables stays sound
  pub stored_rest : all_of (sound_entry t) news ≡ true
      → all_of (λ r. fits_relay t.last_relay (with_shards t.volumes news r)) t.relays ≡ true → Rest t → Rest (stored_in t news)
  unfolding lightened sound_token volume_there parent_there
  stored_rest sound fit s =
      let u = stored_in t news in
      let fits : Relay → Bool = λ r. fits_relay t.last_relay (with_shards t.volumes news r) in
      let stays : Entry → Bool = λ x. replaced_by news x || sound_entry t x in
      let kept = all_weaker (sound_entry t) stays t.entries (λ x h. or_last (replaced_by news x) (sound_entry t x) h) s.entries in
      record {
        counts = s.counts;
        volume_numbers = s.volume_numbers;
        volume_names = s.volume_names;
        entries =
            all_weaker (sound_entry t) (sound_entry u) (stored news t.entries) (λ x h. entry_same t u refl x refl ∙ h)
            (stored_rows (sound_entry t) news t.entries ready kept sound);
        entry_paths = stored_apart news t.entries ready;
        tokens = s.tokens;
        token_numbers = s.token_numbers;
        relays =
            all_mapped (relay_after t news) (sound_relay t) (sound_relay u) t.relays fresh_relay
            (λ j b h. relay_after_lem (get_or t.relays j fresh_relay) h (all_at fits t.relays fit j b fresh_relay)) s.relays;
        relay_numbers_lem = clash_mapped (relay_after t news) same_relay_row same_relay_row t.relays (λ x y e. e) s.relay_numbers_lem;
      }
