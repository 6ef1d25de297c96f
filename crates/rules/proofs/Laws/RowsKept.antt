-- What each row test of the desk reads beside the tables: the clock and the numbers that were given. A row stays sound where those grow.
-- Assumes nothing.
use Rattle.std.specs.Prelude.{◌≡◌, ℕ, ◌+◌, ◌≤◌, leb}
use Rattle.std.proofs.Common.{ap, ◌∙◌, arith, leb-true, le-leb}
use Rattle.std.proofs.Math.Bool.{true}
use Rattle.std.proofs.Math.Logic.{⊎_elim}
use Rattle.std.proofs.Math.Dec.{eqb}
use Rattle.lists.specs.Lists.{Hit, miss, hit, find, all_of}
use Rattle.lists.specs.BoolLaws.{and_left, and_right, and_both, pass_or_fail}
use Rattle.lists.specs.TestLaws.{all_weaker}
use Rattle.rules.specs.declared.Placement.{Placement}
use Rattle.rules.specs.declared.Status.{Status}
use Rattle.rules.specs.declared.Volume.{Volume}
use Rattle.rules.specs.declared.Entry.{Entry}
use Rattle.rules.specs.declared.Token.{Token}
use Rattle.rules.specs.declared.Relay.{Relay}
use Rattle.rules.specs.declared.Session.{Session}
use Rattle.rules.specs.declared.Tables.{Tables}
use Rattle.rules.specs.Tables.{used_volume, used_entry, used_token, used_relay, busy, is_volume}
use Rattle.rules.specs.Scope.{depth}
use Rattle.rules.specs.Relays.{placed_on}
use Rattle.rules.specs.Sound.{is_given, sound_grace, sound_status, sound_volume, relay_given, sound_placement, sound_in, sound_entry, volume_there, parent_there, sound_token, sound_relay, sound_session}
use Rattle.rules.proofs.Laws.RowFacts.{volume_facts, facts_volume, free_volume_lem, entry_facts, facts_entry, free_entry_lem, token_facts, facts_token, free_token_lem, relay_facts, facts_relay, free_relay_lem, session_facts, facts_session, idle_session}

-- the clock does not go back, and no number that was given is taken back
pub record Grown (t u : Tables) : Type 0 where
  pub clock : t.clock ≤ u.clock
  pub volumes : t.last_volume ≤ u.last_volume
  pub tokens : t.last_token ≤ u.last_token
  pub relays : t.last_relay ≤ u.last_relay

pub grown_self : (t : Tables) → Grown t t
grown_self t = omega arith

-- a number that was given is at most the last one, and back; it stays given
pub given_le : (last n : ℕ) → is_given last n ≡ true → n ≤ last
given_le last n e = leb-true n last (and_right (leb 1 n) (leb n last) e)

pub le_given : (last n : ℕ) → 1 ≤ n → n ≤ last → is_given last n ≡ true
le_given last n h k = and_both (le-leb 1 n h) (le-leb n last k)

pub given_grown : (a b n : ℕ) → a ≤ b → is_given a n ≡ true → is_given b n ≡ true
given_grown a b n h e =
    and_both (and_left (leb 1 n) (leb n a) e) (le-leb n b (omega (arith, given_le a n e)))

-- volumes: the last number and the clock
status_grown : (c d : ℕ) (s : Status) (grace deleted : ℕ) → c ≤ d → sound_status c s grace deleted ≡ true → sound_status d s grace deleted ≡ true
status_grown c d s grace deleted h e =
    and_both (and_left (sound_grace s grace) (leb deleted c) e)
    (le-leb deleted d (omega (arith, leb-true deleted c (and_right (sound_grace s grace) (leb deleted c) e))))

module _ (t u : Tables) (g : Grown t u) where
  pub volume_grown : (v : Volume) → sound_volume t v ≡ true → sound_volume u v ≡ true
  volume_grown v h = ⊎_elim used (free_volume_lem u v) (pass_or_fail (used_volume v))
    where
      used : used_volume v ≡ true → sound_volume u v ≡ true
      used w =
          let f = volume_facts t v w h in
          facts_volume u v
          (record {
            numbered = given_grown t.last_volume u.last_volume v.no.0 g.volumes f.numbered;
            name = f.name;
            shards = f.shards;
            cap = f.cap;
            balance = f.balance;
            status = status_grown t.clock u.clock v.status v.grace v.deleted g.clock f.status;
          })

  -- sessions: the last numbers of tokens and volumes
  pub session_grown : (s : Session) → sound_session t s ≡ true → sound_session u s ≡ true
  session_grown s h = ⊎_elim used (idle_session u s) (pass_or_fail (busy s))
    where
      used : busy s ≡ true → sound_session u s ≡ true
      used w =
          let f = session_facts t s w h in
          facts_session u s
          (record {
            token = given_grown t.last_token u.last_token s.token.0 g.tokens f.token;
            volume = given_grown t.last_volume u.last_volume s.volume.0 g.volumes f.volume;
            count = f.count;
            puts = f.puts;
            paths = f.paths;
          })

-- entries: the volumes, and the last number of the relays
module _ (t u : Tables) (g : Grown t u) where
  placement_grown : (v : Volume) (p : Placement) → sound_placement t v p ≡ true → sound_placement u v p ≡ true
  unfolding sound_placement
  placement_grown v p h =
      let numbers : all_of (relay_given t) (placed_on p) ≡ true = search (and_left, and_right) in
      let shards : eqb p.len (v.k + v.m) ≡ true = search (and_left, and_right) in
      and_both
      (and_both shards
      (all_weaker (relay_given t) (relay_given u) (placed_on p) (λ n. given_grown t.last_relay u.last_relay n.0 g.relays) numbers))
      (search (and_left, and_right))

  in_grown : (p : Placement) (h : Hit Volume) → sound_in t p h ≡ true → sound_in u p h ≡ true
  unfolding sound_in
  in_grown p miss e = e
  in_grown p (hit i v) e = placement_grown v p e

  pub entry_grown : u.volumes ≡ t.volumes → (e : Entry) → sound_entry t e ≡ true → sound_entry u e ≡ true
  entry_grown s e h = ⊎_elim used (free_entry_lem u e) (pass_or_fail (used_entry e))
    where
      used : used_entry e ≡ true → sound_entry u e ≡ true
      used w =
          let f = entry_facts t e w h in
          facts_entry u e
          (record { path = f.path; size = f.size; place = ap (λ vs. sound_in u e.placement (find (is_volume e.volume) vs)) s ∙ in_grown e.placement (find (is_volume e.volume) t.volumes) f.place })

  -- relays: the last number, the clock, and what the entries have on them
  pub relay_grown : u.volumes ≡ t.volumes → u.entries ≡ t.entries → (r : Relay) → sound_relay t r ≡ true → sound_relay u r ≡ true
  relay_grown s q r h = ⊎_elim used (free_relay_lem u r) (pass_or_fail (used_relay r))
    where
      used : used_relay r ≡ true → sound_relay u r ≡ true
      used w =
          let f = relay_facts t r w h in
          facts_relay u r
          (record {
            numbered = given_grown t.last_relay u.last_relay r.no.0 g.relays f.numbered;
            capacity = f.capacity;
            fits = f.fits;
            beat = le-leb r.beat u.clock (omega (arith, g.clock, leb-true r.beat t.clock f.beat));
            used = rw (s, q) f.used;
            held = rw q f.held;
          })

  -- tokens: the last number, the volumes, and the token's parent and depth
  pub token_grown : u.volumes ≡ t.volumes → (k : Token) → (used_token k ≡ true → parent_there u k ≡ true)
      → (used_token k ≡ true → depth u.tokens k ≡ depth t.tokens k) → sound_token t k ≡ true → sound_token u k ≡ true
  unfolding volume_there
  token_grown s k p d h = ⊎_elim used (free_token_lem u k) (pass_or_fail (used_token k))
    where
      used : used_token k ≡ true → sound_token u k ≡ true
      used w =
          let f = token_facts t k w h in
          facts_token u k
          (record {
            numbered = given_grown t.last_token u.last_token k.no.0 g.tokens f.numbered;
            prefix = f.prefix;
            cap = f.cap;
            window = f.window;
            volume = rw s f.volume;
            parent = p w;
            chained = rw (d w) f.chained;
            used = f.used;
          })

  -- where the tokens are the same too
  pub token_stays : u.volumes ≡ t.volumes → u.tokens ≡ t.tokens → (k : Token) → sound_token t k ≡ true → sound_token u k ≡ true
  unfolding parent_there
  token_stays s q k h = token_grown s k (λ w. rw q (token_facts t k w h).parent) (λ w. rw q) h
