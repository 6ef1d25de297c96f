-- A sound desk is within the limits that a commit's sums rest on, so there the work of a commit is its rule. Assumes nothing.
use Rattle.std.specs.Prelude.{◌≡◌, refl, Bool, true, false, leb, length}
use Rattle.std.proofs.Common.{arith}
use borrow.Author.Tests.{le-leb, leb-true}
use Rattle.lists.specs.BoolLaws.{and_right, and_both}
use Rattle.lists.specs.TestLaws.{all_weaker}
use Rattle.text.specs.Text.{holds, is_path}
use Rattle.rules.specs.declared.Volume.{Volume}
use Rattle.rules.specs.declared.Entry.{Entry}
use Rattle.rules.specs.declared.Token.{Token}
use Rattle.rules.specs.declared.Relay.{Relay}
use Rattle.rules.specs.declared.Put.{Put}
use Rattle.rules.specs.declared.Session.{Session}
use Rattle.rules.specs.declared.Tables.{Tables}
use Rattle.rules.specs.Limits.{entry_rows, size_limit, capacity_limit}
use Rattle.rules.specs.Tables.{busy, staged, free_volume, free_entry, free_token, free_relay}
use Rattle.rules.specs.Sound.{sound_volume, sound_entry, sound_token, sound_relay, sound_put, sound_session, sound_tables}
use Rattle.rules.proofs.Laws.ApartLaws.{not_free_used, other_part, either_part}
use Rattle.rules.proofs.Laws.RowFacts.{volume_facts, entry_facts, token_facts, relay_facts, session_facts}
use Rattle.rules.proofs.Laws.SoundParts.{parts_of}
use Rattle.rules.specs.Commit.{commit_rule}
use Rattle.placing.specs.PutLaws.{few_held, sound_few}
use Rattle.surveys.specs.RowLimits.{volume_within, entry_within, token_within, relay_within, put_within, session_within}
use Rattle.commits.specs.Within.{in_limits, commit_within}

module _ (t : Tables) where
  volume_in : (v : Volume) → sound_volume t v ≡ true → volume_within v ≡ true
  unfolding volume_within
  volume_in v e = either_part (free_volume v) _ (λ n. (volume_facts t v (not_free_used v.no.0 n) e).shards)

  entry_in_lem : (x : Entry) → sound_entry t x ≡ true → entry_within x ≡ true
  unfolding entry_within
  entry_in_lem x e = either_part (free_entry x) _ (λ n. (entry_facts t x (not_free_used x.volume.0 n) e).size)

  token_in_lem : (k : Token) → sound_token t k ≡ true → token_within k ≡ true
  unfolding token_within
  token_in_lem k e = either_part (free_token k) _ (λ n. (token_facts t k (not_free_used k.no.0 n) e).used)

  relay_in : length t.entries ≡ entry_rows → (r : Relay) → sound_relay t r ≡ true → relay_within r ≡ true
  unfolding relay_within few_held
  relay_in l r e =
      either_part (free_relay r) _
      (λ n.
      let f = relay_facts t r (not_free_used r.no.0 n) e in
      let h = other_part (free_relay r) _ n (sound_few t r l e) in
      let a = leb-true r.capacity capacity_limit f.capacity in
      let b = leb-true r.used r.capacity f.fits in
      and_both (le-leb r.used capacity_limit (omega arith)) (and_right (leb r.capacity capacity_limit) (leb r.held entry_rows) h))

put_in : (p : Put) → sound_put p ≡ true → put_within p ≡ true
unfolding sound_put put_within
put_in p e = and_right (holds is_path p.path) (leb p.size size_limit) e

-- of tables that are sound, and a session of them that is running
pub sound_in_limits : (t : Tables) (s : Session) → length t.entries ≡ entry_rows → sound_tables t ≡ true → sound_session t s ≡ true → busy s ≡ true → in_limits t s ≡ true
unfolding in_limits session_within
sound_in_limits t s l e f b =
    let p = parts_of t e in
    let q = session_facts t s b f in
    and_both
    (and_both
    (and_both
    (and_both (and_both q.count (all_weaker sound_put put_within (staged s) put_in q.puts))
    (all_weaker (sound_volume t) volume_within t.volumes (volume_in t) p.volumes))
    (all_weaker (sound_entry t) entry_within t.entries (entry_in_lem t) p.entries))
    (all_weaker (sound_token t) token_within t.tokens (token_in_lem t) p.tokens))
    (all_weaker (sound_relay t) relay_within t.relays (relay_in t l) p.relays)

-- so there the work is the rule
pub commit_sound : (t : Tables) (s : Session) → length t.entries ≡ entry_rows → sound_tables t ≡ true → sound_session t s ≡ true → commit_within t s ≡ commit_rule t s
unfolding commit_within commit_rule
commit_sound t s l e f = go (busy s) refl
  where
    go : (b : Bool) → busy s ≡ b → commit_within t s ≡ commit_rule t s
    go false q = rw q
    go true q = rw (q, sound_in_limits t s l e f q)
