-- Each row test of the desk taken apart into facts, and back. Assumes nothing.
use Rattle.std.specs.Prelude.{◌≡◌, Bool, true, false, ◌||◌, not, eqb, leb}
use Rattle.lists.specs.Lists.{find, all_of, sum_of, no_clash}
use Rattle.lists.specs.BoolLaws.{and_left, and_right, and_both}
use Rattle.rules.proofs.Laws.ApartLaws.{free_used, used_not_free, other_part, either_part}
use Rattle.text.specs.Text.{is_path, is_prefix, holds, holds_name}
use Rattle.rules.specs.declared.Volume.{Volume}
use Rattle.rules.specs.declared.Entry.{Entry}
use Rattle.rules.specs.declared.Token.{Token}
use Rattle.rules.specs.declared.Relay.{Relay}
use Rattle.rules.specs.declared.Session.{Session}
use Rattle.rules.specs.declared.Tables.{Tables}
use Rattle.rules.specs.Limits.{put_rows, size_limit, capacity_limit, used_limit, clock_limit, balance_limit, deposits_limit, last_number, deepest}
use Rattle.rules.specs.Tables.{used_volume, used_entry, used_token, used_relay, busy, free_volume, free_entry, free_token, free_relay, is_volume, staged}
use Rattle.rules.specs.Scope.{cap_fits, depth}
use Rattle.rules.specs.Relays.{bytes_on, shards_on}
use Rattle.rules.specs.Sound.{is_given, sound_status, shards_fit, sound_volume, sound_in, sound_entry, volume_there, parent_there, sound_token, sound_relay, sound_put, same_path, sound_session, sound_counts}

-- one test or another, of which the second passes
pub or_last : (a b : Bool) → b ≡ true → (a || b) ≡ true
or_last a b e = either_part a b (λ n. e)

pub record VolumeFacts (t : Tables) (v : Volume) : Type 0 where
  pub numbered : is_given t.last_volume v.no.0 ≡ true
  pub name : holds_name v.name ≡ true
  pub shards : shards_fit v.k v.m ≡ true
  pub cap : cap_fits v.cap ≡ true
  pub balance : leb v.balance balance_limit ≡ true
  pub status : sound_status t.clock v.status v.grace v.deleted ≡ true

module _ (t : Tables) (v : Volume) where
  pub volume_facts : used_volume v ≡ true → sound_volume t v ≡ true → VolumeFacts t v
  unfolding sound_volume
  volume_facts u h = let g = other_part (free_volume v) _ (used_not_free v.no.0 u) h in search (and_left, and_right)

  pub facts_volume : VolumeFacts t v → sound_volume t v ≡ true
  unfolding sound_volume
  facts_volume f =
      or_last (free_volume v) _
      (and_both (and_both (and_both (and_both (and_both f.numbered f.name) f.shards) f.cap) f.balance) f.status)

  pub free_volume_lem : used_volume v ≡ false → sound_volume t v ≡ true
  unfolding sound_volume
  free_volume_lem u = rw (free_used v.no.0, u)

pub record EntryFacts (t : Tables) (e : Entry) : Type 0 where
  pub path : holds is_path e.path ≡ true
  pub size : leb e.size size_limit ≡ true
  pub place : sound_in t e.placement (find (is_volume e.volume) t.volumes) ≡ true

module _ (t : Tables) (e : Entry) where
  pub entry_facts : used_entry e ≡ true → sound_entry t e ≡ true → EntryFacts t e
  unfolding sound_entry
  entry_facts u h = let g = other_part (free_entry e) _ (used_not_free e.volume.0 u) h in search (and_left, and_right)

  pub facts_entry : EntryFacts t e → sound_entry t e ≡ true
  unfolding sound_entry
  facts_entry f = or_last (free_entry e) _ (and_both (and_both f.path f.size) f.place)

  pub free_entry_lem : used_entry e ≡ false → sound_entry t e ≡ true
  unfolding sound_entry
  free_entry_lem u = rw (free_used e.volume.0, u)

pub record TokenFacts (t : Tables) (k : Token) : Type 0 where
  pub numbered : is_given t.last_token k.no.0 ≡ true
  pub prefix : holds is_prefix k.scope.prefix ≡ true
  pub cap : cap_fits k.scope.cap ≡ true
  pub window : leb k.scope.«from» k.scope.until ≡ true
  pub volume : volume_there t k.volume ≡ true
  pub parent : parent_there t k ≡ true
  pub chained : leb (depth t.tokens k) deepest ≡ true
  pub used : leb k.used used_limit ≡ true

module _ (t : Tables) (k : Token) where
  pub token_facts : used_token k ≡ true → sound_token t k ≡ true → TokenFacts t k
  unfolding sound_token
  token_facts u h = let g = other_part (free_token k) _ (used_not_free k.no.0 u) h in search (and_left, and_right) depth 9

  pub facts_token : TokenFacts t k → sound_token t k ≡ true
  unfolding sound_token
  facts_token f =
      or_last (free_token k) _
      (and_both
      (and_both (and_both (and_both (and_both (and_both (and_both f.numbered f.prefix) f.cap) f.window) f.volume) f.parent) f.chained)
      f.used)

  pub free_token_lem : used_token k ≡ false → sound_token t k ≡ true
  unfolding sound_token
  free_token_lem u = rw (free_used k.no.0, u)

pub record RelayFacts (t : Tables) (r : Relay) : Type 0 where
  pub numbered : is_given t.last_relay r.no.0 ≡ true
  pub capacity : leb r.capacity capacity_limit ≡ true
  pub fits : leb r.used r.capacity ≡ true
  pub beat : leb r.beat t.clock ≡ true
  pub used : eqb r.used (sum_of (bytes_on t.volumes r.no) t.entries) ≡ true
  pub held : eqb r.held (sum_of (shards_on r.no) t.entries) ≡ true

module _ (t : Tables) (r : Relay) where
  pub relay_facts : used_relay r ≡ true → sound_relay t r ≡ true → RelayFacts t r
  unfolding sound_relay
  relay_facts u h = let g = other_part (free_relay r) _ (used_not_free r.no.0 u) h in search (and_left, and_right)

  pub facts_relay : RelayFacts t r → sound_relay t r ≡ true
  unfolding sound_relay
  facts_relay f =
      or_last (free_relay r) _
      (and_both (and_both (and_both (and_both (and_both f.numbered f.capacity) f.fits) f.beat) f.used) f.held)

  pub free_relay_lem : used_relay r ≡ false → sound_relay t r ≡ true
  unfolding sound_relay
  free_relay_lem u = rw (free_used r.no.0, u)

pub record SessionFacts (t : Tables) (s : Session) : Type 0 where
  pub token : is_given t.last_token s.token.0 ≡ true
  pub volume : is_given t.last_volume s.volume.0 ≡ true
  pub count : leb s.count put_rows ≡ true
  pub puts : all_of sound_put (staged s) ≡ true
  pub paths : no_clash same_path (staged s) ≡ true

module _ (t : Tables) (s : Session) where
  pub session_facts : busy s ≡ true → sound_session t s ≡ true → SessionFacts t s
  unfolding sound_session
  session_facts u h = let g = other_part (not (busy s)) _ (rw u) h in search (and_left, and_right)

  pub facts_session : SessionFacts t s → sound_session t s ≡ true
  unfolding sound_session
  facts_session f = or_last (not (busy s)) _ (and_both (and_both (and_both (and_both f.token f.volume) f.count) f.puts) f.paths)

  pub idle_session : busy s ≡ false → sound_session t s ≡ true
  unfolding sound_session
  idle_session u = rw u

pub record CountFacts (t : Tables) : Type 0 where
  pub clock : leb t.clock clock_limit ≡ true
  pub deposits : leb t.deposits deposits_limit ≡ true
  pub volumes : leb t.last_volume last_number ≡ true
  pub tokens : leb t.last_token last_number ≡ true
  pub relays : leb t.last_relay last_number ≡ true

module _ (t : Tables) where
  pub count_facts : sound_counts t ≡ true → CountFacts t
  count_facts h = search (and_left, and_right)

  pub facts_counts : CountFacts t → sound_counts t ≡ true
  facts_counts f = and_both (and_both (and_both (and_both f.clock f.deposits) f.volumes) f.tokens) f.relays
