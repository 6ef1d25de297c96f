-- A volume's number, owner, name, K, M and cap last as long as the volume does, and the other rows read nothing else of it. So volumes
-- that change in anything else leave the rest of the tables sound. Assumes nothing.
use Rattle.std.specs.Prelude.{◌≡◌, Bool, true, ◌&&◌, List, map, ℕ, ◌<◌, length, get_or}
use Rattle.std.proofs.Math.Path.{refl, ap, sym}
use Rattle.std.proofs.Common.{◌∙◌, ⊎_elim}
use Rattle.amount.specs.declared.Cap.{Cap}
use Rattle.lists.specs.Lists.{Hit, miss, hit, first_row, find, no_clash}
use Rattle.lists.specs.Bytes.{same_bytes}
use Rattle.lists.specs.BoolLaws.{pass_or_fail}
use Rattle.lists.specs.SearchLaws.{miss_hit}
use Rattle.lists.specs.RowLaws.{clash_map}
use Rattle.text.specs.Text.{Name}
use Rattle.text.specs.Text.{name_bytes}
use Rattle.rules.specs.declared.VolumeNo.{VolumeNo}
use Rattle.rules.specs.declared.RelayNo.{RelayNo}
use Rattle.rules.specs.declared.Account.{Account}
use Rattle.rules.specs.declared.Placement.{Placement}
use Rattle.rules.specs.declared.Volume.{Volume}
use Rattle.rules.specs.declared.Entry.{Entry}
use Rattle.rules.specs.declared.Token.{Token}
use Rattle.rules.specs.declared.Relay.{Relay}
use Rattle.rules.specs.declared.Tables.{Tables}
use Rattle.rules.specs.Fresh.{fresh_entry, fresh_token, fresh_relay}
use Rattle.rules.specs.Tables.{given, numbered, used_token, is_volume, with_volumes}
use Rattle.rules.specs.Relays.{shard_size, shard_bytes, bytes_on}
use Rattle.rules.specs.Sound.{sound_entry, sound_token, sound_relay, sound_in, sound_placement, volume_there, parent_there, same_volume, same_name}
use Rattle.rules.proofs.Laws.RowFacts.{free_token_lem}
use Rattle.rules.proofs.Laws.RestParts.{Rest}
use Rattle.rules.proofs.Laws.MappedLaws.{all_agree, sum_agree, map_hit, found_any, find_mapped}

pub record Lasting : Type 0 where
  pub no : VolumeNo
  pub owner : Account
  pub name : Name
  pub k : ℕ
  pub m : ℕ
  pub cap : Cap

abbrev pub lasting : Volume → Lasting
lasting v = record { no = v.no; owner = v.owner; name = v.name; k = v.k; m = v.m; cap = v.cap }

-- what the entries and tokens of a volume of this number read of the table
abbrev pub lasting_of : List Volume → VolumeNo → Hit Lasting
lasting_of vs n = map_hit lasting (find (is_volume n) vs)

-- a row of this volume reads the same of both tables
abbrev pub SameFor : List Volume → List Volume → VolumeNo → Type 0
SameFor vs ws n = lasting_of ws n ≡ lasting_of vs n

-- volumes whose rows are the same in what lasts
abbrev is_lasting : VolumeNo → Lasting → Bool
is_lasting n x = numbered n.0 x.no.0

abbrev same_lasting : Lasting → Lasting → Bool
same_lasting a b = numbered a.no.0 b.no.0

abbrev same_named : Lasting → Lasting → Bool
same_named a b = given a.no.0 && given b.no.0 && same_bytes a.owner.0 b.owner.0 && same_bytes (name_bytes a.name) (name_bytes b.name)

module _ (vs ws : List Volume) (e : map lasting ws ≡ map lasting vs) where
  pub lasting_same : (n : VolumeNo) → SameFor vs ws n
  lasting_same n =
      sym (find_mapped lasting (is_volume n) (is_lasting n) 0 ws (λ x. refl))
      ∙ ap (first_row (is_lasting n) 0) e
      ∙ find_mapped lasting (is_volume n) (is_lasting n) 0 vs (λ x. refl)

  pub numbers_same : no_clash same_volume ws ≡ no_clash same_volume vs
  numbers_same =
      clash_map same_volume same_lasting lasting ws (λ x y. refl)
      ∙ ap (no_clash same_lasting) e
      ∙ sym (clash_map same_volume same_lasting lasting vs (λ x y. refl))

  pub names_same : no_clash same_name ws ≡ no_clash same_name vs
  unfolding same_name
  names_same =
      clash_map same_name same_named lasting ws (λ x y. refl)
      ∙ ap (no_clash same_named) e
      ∙ sym (clash_map same_name same_named lasting vs (λ x y. refl))

-- the bytes of a shard
abbrev bytes_in : ℕ → Hit Lasting → ℕ
bytes_in size miss = 0
bytes_in size (hit i x) = shard_size size x.k

shard_hit : (vs : List Volume) (e : Entry) (h : Hit Volume) → find (is_volume e.volume) vs ≡ h
    → shard_bytes vs e ≡ bytes_in e.size (map_hit lasting h)
unfolding shard_bytes
shard_hit vs e miss q = rw q
shard_hit vs e (hit i v) q = rw q

shard_lasting : (vs : List Volume) (e : Entry) → shard_bytes vs e ≡ bytes_in e.size (lasting_of vs e.volume)
shard_lasting vs e = shard_hit vs e (find (is_volume e.volume) vs) refl

pub bytes_same : (n : RelayNo) (vs ws : List Volume) (e : Entry) → SameFor vs ws e.volume → bytes_on ws n e ≡ bytes_on vs n e
unfolding bytes_on
bytes_same n vs ws e q = rw (shard_lasting ws e, q, ← (shard_lasting vs e))

-- an entry is as sound in tables that have given as many relay numbers, and in which its volume has what it had of what lasts
module _ (t u : Tables) (l : u.last_relay ≡ t.last_relay) where
  placed_hit : (p : Placement) (g h : Hit Volume) → map_hit lasting g ≡ map_hit lasting h → sound_in u p g ≡ sound_in t p h
  unfolding sound_in sound_placement
  placed_hit p miss miss e = refl
  placed_hit p miss (hit i v) e = absurd (miss_hit refl e)
  placed_hit p (hit i v) miss e = absurd (miss_hit e refl)
  placed_hit p (hit i v) (hit j w) e =
      let q : lasting v ≡ lasting w = cc in
      rw (ap (λ (x : Lasting). x.k) q, ap (λ (x : Lasting). x.m) q, l)

  pub entry_same : (e : Entry) → SameFor t.volumes u.volumes e.volume → sound_entry u e ≡ sound_entry t e
  unfolding sound_entry
  entry_same e q = rw (placed_hit e.placement (find (is_volume e.volume) u.volumes) (find (is_volume e.volume) t.volumes) q)

-- a row that reads of the volumes what has not changed is as sound as it was
module _ (t : Tables) (ws : List Volume) where
  token_same : (k : Token) → SameFor t.volumes ws k.volume → sound_token (with_volumes t ws) k ≡ sound_token t k
  unfolding sound_token volume_there parent_there
  token_same k q = rw (found_any lasting (is_volume k.volume) ws t.volumes q)

  token_agrees : (k : Token) → (used_token k ≡ true → SameFor t.volumes ws k.volume) → sound_token (with_volumes t ws) k ≡ sound_token t k
  token_agrees k q =
      ⊎_elim (λ w. token_same k (q w)) (λ w. free_token_lem (with_volumes t ws) k w ∙ sym (free_token_lem t k w)) (pass_or_fail (used_token k))

  relay_same : (r : Relay) → ((j : ℕ) → j < length t.entries → SameFor t.volumes ws (get_or t.entries j fresh_entry).volume)
      → sound_relay (with_volumes t ws) r ≡ sound_relay t r
  unfolding sound_relay
  relay_same r q =
      rw (sum_agree (bytes_on ws r.no) (bytes_on t.volumes r.no) t.entries fresh_entry
      (λ j h. bytes_same r.no t.volumes ws (get_or t.entries j fresh_entry) (q j h)))

-- the volumes change, and each entry and each token reads of them what it read
pub record ReadSame (t : Tables) (ws : List Volume) : Type 0 where
  pub numbers : no_clash same_volume ws ≡ true
  pub names : no_clash same_name ws ≡ true
  pub entries : (j : ℕ) → j < length t.entries → SameFor t.volumes ws (get_or t.entries j fresh_entry).volume
  pub tokens : (j : ℕ) → j < length t.tokens → used_token (get_or t.tokens j fresh_token) ≡ true
      → SameFor t.volumes ws (get_or t.tokens j fresh_token).volume

pub volumes_change : (t : Tables) (ws : List Volume) → ReadSame t ws → Rest t → Rest (with_volumes t ws)
volumes_change t ws s p =
    let u = with_volumes t ws in
    record {
      counts = p.counts;
      volume_numbers = s.numbers;
      volume_names = s.names;
      entries =
          all_agree (sound_entry u) (sound_entry t) t.entries fresh_entry
          (λ j h. entry_same t u refl (get_or t.entries j fresh_entry) (s.entries j h))
          ∙ p.entries;
      entry_paths = p.entry_paths;
      tokens =
          all_agree (sound_token u) (sound_token t) t.tokens fresh_token (λ j h. token_agrees t ws (get_or t.tokens j fresh_token) (s.tokens j h))
          ∙ p.tokens;
      token_numbers = p.token_numbers;
      relays =
          all_agree (sound_relay u) (sound_relay t) t.relays fresh_relay (λ j h. relay_same t ws (get_or t.relays j fresh_relay) s.entries)
          ∙ p.relays;
      relay_numbers_lem = p.relay_numbers_lem;
    }

-- they change in what does not last
pub lasting_change : (t : Tables) (ws : List Volume) → map lasting ws ≡ map lasting t.volumes → Rest t → Rest (with_volumes t ws)
lasting_change t ws e p =
    volumes_change t ws
    (record {
      numbers = numbers_same t.volumes ws e ∙ p.volume_numbers;
      names = names_same t.volumes ws e ∙ p.volume_names;
      entries = λ j h. lasting_same t.volumes ws e (get_or t.entries j fresh_entry).volume;
      tokens = λ j h w. lasting_same t.volumes ws e (get_or t.tokens j fresh_token).volume;
    })
    p
