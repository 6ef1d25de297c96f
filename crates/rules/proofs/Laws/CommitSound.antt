-- A commit leaves sound tables sound: its entries are stored and their relays loaded, then the token and its ancestors are charged, then the
-- volume's version rises. Assumes nothing.
use Rattle.std.specs.Prelude.{◌≡◌, refl, Bool, true, false, ℕ, ◌+◌, ◌≤◌, get_or}
use Rattle.std.proofs.Math.Path.{ap, ap₂}
use Rattle.std.proofs.Common.{sym, ◌∙◌, arith, length-set, ltb-false}
use mathlib.Core.List.{List, map}
use Rattle.std.proofs.Math.ListN.{length, set}
use Rattle.std.proofs.lemmas.List.{length-map}
use Rattle.std.proofs.Math.Seq.{map-set_same}
use Rattle.lists.specs.Lists.{hit, find, all_of, count_if, keep, no_clash}
use Rattle.lists.specs.SearchLaws.{found_at, row_passes}
use Rattle.lists.specs.TestLaws.{all_at, all_weaker}
use Rattle.lists.specs.RowLaws.{map_after}
use Rattle.rules.specs.declared.Placement.{Placement}
use Rattle.rules.specs.declared.Volume.{Volume}
use Rattle.rules.specs.declared.Entry.{Entry}
use Rattle.rules.specs.declared.Relay.{Relay}
use Rattle.rules.specs.declared.Put.{Put}
use Rattle.rules.specs.declared.Session.{Session}
use Rattle.rules.specs.declared.Tables.{Tables}
use Rattle.rules.specs.Limits.{entry_rows}
use Rattle.rules.specs.Fresh.{fresh_put, fresh_placement}
use Rattle.rules.specs.Tables.{given, numbered, used_entry, is_volume, staged, volume_of, token_of, with_volumes, with_entries, with_tokens, with_relays, with_version}
use Rattle.rules.specs.Scope.{family}
use Rattle.rules.specs.Relays.{lightened}
use Rattle.rules.specs.Commit.{store_all, is_replaced, is_new_path, passes_quotas, passes_room, staged_bytes, charged, committed}
use Rattle.rules.specs.Sound.{sound_volume, sound_placement, sound_entry, sound_relay, sound_put, sound_session, same_path}
use Rattle.rules.proofs.Laws.RowFacts.{session_facts}
use Rattle.rules.proofs.Laws.RestParts.{Rest, rest_of, with_volumes_lem}
use Rattle.rules.proofs.Laws.MappedLaws.{all_mapped}
use Rattle.rules.proofs.Laws.LastingLaws.{lasting, lasting_change}
use Rattle.rules.proofs.Laws.SetLaws.{all_set}
use Rattle.rules.proofs.Laws.NumberLaws.{numbered_used, numbered_eq, found_passes}
use Rattle.rules.proofs.Laws.TakeLaws.{all_map}
use Rattle.rules.proofs.Laws.PlaceLaws.{fits_relay}
use Rattle.rules.proofs.Laws.LoadLaws.{Staged, put_in, place_in, entry_in, with_shards, PlacedAll, placed_all}
use Rattle.rules.proofs.Laws.StoreLaws.{stored, replaced_by, Ready, length_stored}
use Rattle.rules.proofs.Laws.PutLaws.{store_all_lem, replaced_same, puts_ready}
use Rattle.rules.proofs.Laws.Shape.{Shape}
use Rattle.rules.proofs.Laws.Invariant.{Invariant, Follows}
use Rattle.rules.proofs.Laws.ChargeLaws.{charge_rest, charge_family}
use Rattle.rules.proofs.Laws.SoundParts.{Parts}
use Rattle.rules.proofs.Laws.Family.{FamilyInOneVolume}
use Rattle.rules.proofs.Laws.RowsKept.{Grown}
use Rattle.rules.proofs.Laws.StoredSound.{gone_from, relay_after, stored_in, relay_fits, new_entry, stored_rest}
use Rattle.rules.proofs.Laws.CommitCases.{Accepted, tables_of}

-- the entries of puts that were placed
abbrev entries_of : Volume → List Staged → List Entry
entries_of v zs = map (entry_in v.no) zs

module _ (t : Tables) (v : Volume) (ps : List Put) (places : List Placement) (rs : List Relay) (all : PlacedAll t v ps t.relays places rs) where
  entries_as : store_all v.no ps places t.entries ≡ stored (entries_of v all.pairs) t.entries
  entries_as =
      ap₂ (λ (a : List Put) (b : List Placement). store_all v.no a b t.entries) (sym all.puts) (sym all.placements)
      ∙ store_all_lem v.no all.pairs t.entries

  replaced_as : is_replaced v.no ps ≡ replaced_by (entries_of v all.pairs)
  replaced_as = ap (is_replaced v.no) (sym all.puts) ∙ replaced_same v.no all.pairs

  relays_as : map (lightened t.volumes (keep (is_replaced v.no ps) t.entries)) rs ≡ map (relay_after t (entries_of v all.pairs)) t.relays
  relays_as =
      let news = entries_of v all.pairs in
      ap (λ (p : Entry → Bool). map (lightened t.volumes (keep p t.entries)) rs) replaced_as
      ∙ ap (map (lightened t.volumes (gone_from t news))) all.shards
      ∙ map_after (lightened t.volumes (gone_from t news)) (with_shards t.volumes news) (relay_after t news) t.relays (λ r. refl)

  -- they can be stored
  entries_ready : Parts t → Shape t → given v.no.0 ≡ true → no_clash same_path ps ≡ true → passes_room t v ps ≡ false
      → Ready (entries_of v all.pairs) t.entries
  unfolding passes_room
  entries_ready p shape g paths room =
      let count = count_if used_entry t.entries + count_if (is_new_path v.no t.entries) ps in
      let b : count ≤ length t.entries = rw shape.entry_rows_lem (ltb-false entry_rows count room) in
      puts_ready v.no g all.pairs t.entries p.entry_paths (ap (no_clash same_path) all.puts ∙ paths) (rw (← all.puts) at b)

  -- they are sound
  entries_sound : (i : ℕ) → find (is_volume v.no) t.volumes ≡ hit i v → all_of sound_put ps ≡ true
      → all_of (sound_entry t) (entries_of v all.pairs) ≡ true
  entries_sound i found puts =
      let d : Staged = (fresh_put, fresh_placement) in
      let zs = all.pairs in
      let place : Staged → Bool = λ z. sound_placement t v z.1 in
      let p = sym (all_map put_in sound_put (λ z. sound_put z.0) zs (λ z. refl)) ∙ ap (all_of sound_put) all.puts ∙ puts in
      let q = sym (all_map place_in (sound_placement t v) place zs (λ z. refl)) ∙ ap (all_of (sound_placement t v)) all.placements ∙ all.sound in
      all_mapped (entry_in v.no) (λ z. sound_put z.0) (sound_entry t) zs d
      (λ j b h. new_entry t v i found (get_or zs j d) h (all_at place zs q j b d)) p

  -- the relays that took them fit
  relays_fit : all_of (λ r. fits_relay t.last_relay (with_shards t.volumes (entries_of v all.pairs) r)) t.relays ≡ true
  relays_fit =
      let fits = fits_relay t.last_relay in
      let g = with_shards t.volumes (entries_of v all.pairs) in
      sym (all_map g fits (λ r. fits (g r)) t.relays (λ r. refl)) ∙ ap (all_of fits) (sym all.shards) ∙ all.fit

-- a commit of a sound session that passed every check
module _ (t : Tables) (p : Parts t) (shape : Shape t) (s : Session) (sound : sound_session t s ≡ true) (a : Accepted t s) where
  own_number : numbered s.volume.0 a.volume.no.0 ≡ true
  unfolding volume_of
  own_number = row_passes (is_volume s.volume) t.volumes 0 a.volume_row_lem a.volume a.volume_found_lem

  own_row : find (is_volume a.volume.no) t.volumes ≡ hit a.volume_row_lem a.volume
  unfolding volume_of
  own_row =
      ap (λ (x : ℕ). find (λ (y : Volume). numbered x y.no.0) t.volumes) (numbered_eq s.volume.0 a.volume.no.0 own_number)
      ∙ a.volume_found_lem

  own_given : given a.volume.no.0 ≡ true
  own_given = numbered_used s.volume.0 a.volume.no.0 own_number

  all_placed : PlacedAll t a.volume (staged s) t.relays a.places a.relays
  all_placed =
      placed_all t a.volume a.volume_row_lem t.clock own_given own_row (staged s) t.relays a.places a.relays
      (all_weaker (sound_relay t) (fits_relay t.last_relay) t.relays (relay_fits t) p.relays) p.relay_numbers_lem a.placing

  abbrev news : List Entry
  news = entries_of a.volume all_placed.pairs

  news_ready : Ready news t.entries
  news_ready =
      entries_ready t a.volume (staged s) a.places a.relays all_placed p shape own_given (session_facts t s a.in_use sound).paths a.room

  -- in three steps: entries and relays, tokens, volumes
  abbrev charged_in : Tables
  charged_in = with_tokens (stored_in t news) (map (charged (family t.tokens a.token) (staged_bytes (staged s))) t.tokens)

  abbrev raised : Volume
  raised = with_version a.volume (a.volume.version + 1)

  abbrev raised_in : Tables
  raised_in = with_volumes charged_in (set t.volumes a.volume_row_lem raised)

  stored_part : Rest (stored_in t news)
  stored_part =
      stored_rest t news news_ready
      (entries_sound t a.volume (staged s) a.places a.relays all_placed a.volume_row_lem own_row (session_facts t s a.in_use sound).puts)
      (relays_fit t a.volume (staged s) a.places a.relays all_placed) (rest_of p)

  charged_part : Rest charged_in
  unfolding token_of passes_quotas
  charged_part =
      charge_rest (stored_in t news) s.token a.token_row_lem a.token a.token_found_lem p.token_numbers (staged_bytes (staged s)) a.quotas
      stored_part

  row_is : get_or t.volumes a.volume_row_lem raised ≡ a.volume
  unfolding volume_of
  row_is = found_at (is_volume s.volume) t.volumes a.volume_row_lem a.volume a.volume_found_lem raised

  raised_part : Rest raised_in
  raised_part =
      lasting_change charged_in (set t.volumes a.volume_row_lem raised)
      (map-set_same lasting t.volumes a.volume_row_lem raised raised (ap lasting (sym row_is))) charged_part

  volumes_part : all_of (sound_volume raised_in) (set t.volumes a.volume_row_lem raised) ≡ true
  unfolding volume_of sound_volume
  volumes_part =
      all_set (sound_volume t) t.volumes a.volume_row_lem raised p.volumes
      (found_passes (is_volume s.volume) (sound_volume t) t.volumes a.volume_row_lem a.volume p.volumes a.volume_found_lem)

  -- which are the tables that the commit leaves
  committed_as : tables_of t s a ≡ raised_in
  unfolding committed
  committed_as =
      let ts = map (charged (family t.tokens a.token) (staged_bytes (staged s))) t.tokens in
      let vs = set t.volumes a.volume_row_lem raised in
      ap₂ (λ (es : List Entry) (rs : List Relay). with_volumes (with_tokens (with_relays (with_entries t es) rs) ts) vs)
      (entries_as t a.volume (staged s) a.places a.relays all_placed) (relays_as t a.volume (staged s) a.places a.relays all_placed)

  committed_sound : Parts (tables_of t s a)
  committed_sound = rw committed_as (with_volumes_lem volumes_part raised_part)

  committed_shape : Shape (tables_of t s a)
  committed_shape =
      rw committed_as
      (record {
        volume_rows_lem = length-set t.volumes a.volume_row_lem raised ∙ shape.volume_rows_lem;
        entry_rows_lem = length_stored news t.entries news_ready ∙ shape.entry_rows_lem;
        token_rows_lem = length-map t.tokens (charged (family t.tokens a.token) (staged_bytes (staged s))) ∙ shape.token_rows_lem;
        relay_rows_lem = length-map t.relays (relay_after t news) ∙ shape.relay_rows_lem;
      })

committed_family : (t : Tables) (s : Session) (a : Accepted t s) → FamilyInOneVolume t → FamilyInOneVolume (tables_of t s a)
unfolding committed
committed_family t s a f = charge_family t (family t.tokens a.token) (staged_bytes (staged s)) f

committed_grown : (t : Tables) (s : Session) (a : Accepted t s) → Grown t (tables_of t s a)
unfolding committed
committed_grown t s a = omega arith

-- an accepted commit leaves tables that may follow
pub commit_follows : (t : Tables) → Invariant t → (s : Session) → sound_session t s ≡ true → (a : Accepted t s) → Follows t (tables_of t s a)
commit_follows t inv s h a = record {
  invariant = record {
    parts = committed_sound t inv.parts inv.shape s h a;
    shape = committed_shape t inv.parts inv.shape s h a;
    family = committed_family t s a inv.family;
  };
  grown = committed_grown t s a;
}
