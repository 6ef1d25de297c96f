-- What storing in kept tables rests on, and what it leaves. j is the bytes of the journal. Assumes nothing.
use mathlib.Core.Path.{◌≡◌, refl, sym, ◌∙◌}
use mathlib.Core.Bool.{Bool, true, false, not, ◌&&◌}
use mathlib.Core.List.{List, [], map}
use Prim.Native.Nat.{ℕ, ◌+◌, ◌*◌, ◌<◌, ◌≤◌, ◌^◌}
use native.Mathlib.Omega.{arith}
use mir.Val.{Fits}
use mir.Syntax.{w64}
use borrow.Author.Tests.{not-true, not-false, ltb-true, leb-true, lt-leb, le-leb}
use borrow.Author.Rules.{rules}
use lib.Dec.{ltb, leb}
use lib.ListN.{length, take, get_or}
use Rattle.lists.specs.Lists.{all_of, any_of, sum_of}
use Rattle.lists.specs.BoolLaws.{and_left, and_right, not_both}
use Rattle.lists.specs.LoopLaws.{AllLoop, all_failed_part, all_step_part, SumLoop, sum_start, sum_all}
use Rattle.lists.specs.RowLaws.{rows_length, all_map, sum_map, map_row}
use Rattle.rules.specs.declared.VolumeNo.{VolumeNo}
use Rattle.rules.specs.declared.Placement.{Placement}
use Rattle.rules.specs.declared.Volume.{Volume}
use Rattle.rules.specs.declared.Entry.{Entry}
use Rattle.rules.specs.declared.Token.{Token}
use Rattle.rules.specs.declared.Relay.{Relay}
use Rattle.rules.specs.declared.Tables.{Tables}
use Rattle.rules.specs.declared.Answer.{Answer}
use Rattle.rules.specs.Limits.{volume_rows, token_rows, put_rows, size_limit, last_version}
use Rattle.rules.specs.Numbers.{BAD}
use Rattle.rules.specs.Fresh.{fresh_session}
use Rattle.rules.specs.Outcome.{refusal}
use Rattle.rules.specs.Scope.{family}
use Rattle.rules.specs.Relays.{lightened}
use Rattle.rules.specs.Commit.{put_size, staged_bytes, store_all, charged}
use Rattle.rows.specs.Blank.{blank_volume, blank_token}
use Rattle.entries.specs.Marks.{is_set, marked}
use Rattle.entries.specs.MarkLaws.{give_none}
use Rattle.surveys.specs.RowLimits.{put_within, session_within, can_store}
use Rattle.surveys.specs.SurveyedLaws.{part_size}
use Rattle.commits.specs.declared.CommitOutcome.{CommitOutcome}
use Rattle.commits.specs.declared.Plan.{Plan}
use Rattle.commits.specs.ChargeLaws.{take_map}
use Rattle.commits.specs.CommitSums.{staged_small, sum_adds_part, sum_within_part}
use Rattle.commits.specs.Stored.{StoredAs, StoredBy}
use Rattle.kept.specs.declared.KeptEntry.{KeptEntry}
use Rattle.kept.specs.declared.KeptPut.{KeptPut}
use Rattle.kept.specs.declared.KeptSession.{KeptSession}
use Rattle.kept.specs.declared.KeptToken.{KeptToken}
use Rattle.kept.specs.Kept.{put_in, token_in, session_in, fresh_kept_session}
use Rattle.kept_entries.specs.KeptEntries.{entries_in, puts_in}
use Rattle.kept_tokens.specs.KeptTokens.{tokens_in}
use Rattle.kept_commits.specs.KeptLimits.{within_kept, put_kept, kept_size, session_kept, can_keep}
use Rattle.kept_commits.proofs.TokenLaws.{within_in}

-- ---- the limits are those of the rows that the kept rows stand for

module _ (j : List ℕ) where
  puts_same : (puts : List KeptPut) (count : ℕ) → all_of put_within (take count (puts_in j puts)) ≡ all_of put_kept (take count puts)
  unfolding put_kept put_within
  puts_same puts count = rw (take_map (put_in j) count puts) (all_map (put_in j) (take count puts) put_within put_kept (λ x. refl))

  session_same : (s : KeptSession) → session_within (session_in j s) ≡ session_kept s
  unfolding session_within session_kept
  session_same s = rw (puts_same s.puts s.count)

  can_same : (volumes : List Volume) (tokens : List KeptToken) (s : KeptSession) (i k : ℕ)
      → can_store volumes (tokens_in j tokens) (session_in j s) i k ≡ can_keep volumes tokens s i k
  unfolding can_store can_keep
  can_same volumes tokens s i k = rw (session_same s, ← within_in j tokens (all_of within_kept tokens) refl)

  bytes_same : (puts : List KeptPut) (count : ℕ) → staged_bytes (take count (puts_in j puts)) ≡ sum_of kept_size (take count puts)
  bytes_same puts count = rw (take_map (put_in j) count puts) (sum_map (put_in j) (take count puts) put_size kept_size (λ x. refl))

-- the loop over the puts that tests them
module _ (puts : List KeptPut) (count n i : ℕ) (d : KeptPut) where
  pub put_over : size_limit < (get_or puts i d).size → i < n → AllLoop put_kept (take count puts) n i → false ≡ all_of put_kept (take count puts)
  unfolding put_kept
  put_over w k h = all_failed_part d put_kept puts count n i false h k (sym (rw (lt-leb (get_or puts i d).size size_limit w))) refl

  pub put_under : (get_or puts i d).size ≤ size_limit → i < n → AllLoop put_kept (take count puts) n i → AllLoop put_kept (take count puts) n (i + 1)
  unfolding put_kept
  put_under w k h = all_step_part d put_kept puts count n i true h k (sym (rw (le-leb (get_or puts i d).size size_limit w))) refl

-- the loop over the puts that sums their sizes
module _ (puts : List KeptPut) (count : ℕ) (few : count ≤ 8) (fit : all_of put_kept (take count puts) ≡ true) where
  small : sum_of kept_size (take count puts) ≤ 8 * 2 ^ 36
  small = rw (bytes_same [] puts count) at (staged_small (puts_in [] puts) count few (puts_same [] puts count ∙ fit))

  module _ (n i sum : ℕ) (h : SumLoop kept_size (take count puts) n i sum) where
    pub kept_fits : (d : KeptPut) → i < n → Fits w64 (sum + (get_or puts i d).size)
    kept_fits d w = record { fits = omega (arith, sum_within_part d kept_size puts count n i sum h w, small) }

    pub kept_adds : (d : KeptPut) → i < n → SumLoop kept_size (take count puts) n (i + 1) (sum + (get_or puts i d).size)
    kept_adds d w = sum_adds_part d kept_size puts count n i sum h w

    pub kept_small : n ≤ i → sum ≤ 8 * 2 ^ 36
    kept_small w = rw (sum_all kept_size (take count puts) n i sum h w) small

pub ruleset kept-stages = (kept_adds, kept_fits, kept_small, sum_all, sum_start, part_size, rows_length, rules)

-- ---- r said whether the puts can be stored

module _ (volumes : List Volume) (tokens : List KeptToken) (s : KeptSession) (i k : ℕ) (r : Bool) (e : r ≡ can_keep volumes tokens s i k) (g : not r ≡ false) where
  abbrev two : Bool
  two = ltb i volume_rows && ltb (get_or volumes i blank_volume).version last_version

  abbrev four : Bool
  four = two && session_kept s && all_of within_kept tokens

  told : (four && ltb k token_rows) ≡ true
  unfolding can_keep
  told = sym e ∙ not-false r g

  pub keep_token : k < 32
  keep_token = ltb-true k token_rows (and_right four (ltb k token_rows) told)

  four_ok : four ≡ true
  four_ok = and_left four (ltb k token_rows) told

  pub keep_tokens : all_of within_kept tokens ≡ true
  keep_tokens = and_right (two && session_kept s) (all_of within_kept tokens) four_ok

  three_ok : (two && session_kept s) ≡ true
  three_ok = and_left (two && session_kept s) (all_of within_kept tokens) four_ok

  session_ok : (leb s.count put_rows && all_of put_kept (take s.count s.puts)) ≡ true
  unfolding session_kept
  session_ok = and_right two (session_kept s) three_ok

  pub keep_puts : all_of put_kept (take s.count s.puts) ≡ true
  keep_puts = and_right (leb s.count put_rows) (all_of put_kept (take s.count s.puts)) session_ok

  pub keep_count : s.count ≤ 8
  keep_count = leb-true s.count put_rows (and_left (leb s.count put_rows) (all_of put_kept (take s.count s.puts)) session_ok)

  pub keep_version : (get_or volumes i blank_volume).version < last_version
  keep_version =
      ltb-true (get_or volumes i blank_volume).version last_version
      (and_right (ltb i volume_rows) (ltb (get_or volumes i blank_volume).version last_version) (and_left two (session_kept s) three_ok))

  pub keep_volume : i < 8
  keep_volume =
      ltb-true i volume_rows
      (and_left (ltb i volume_rows) (ltb (get_or volumes i blank_volume).version last_version) (and_left two (session_kept s) three_ok))

-- what storing by the plan x leaves
module _ (j : List ℕ) (t : Tables) (volumes : List Volume) (entries : List KeptEntry) (tokens : List KeptToken) (s : KeptSession) (x : Plan)
    (ev : t.volumes ≡ volumes) (ee : t.entries ≡ entries_in j entries) (et : t.tokens ≡ tokens_in j tokens) (r : Bool)
    (e : r ≡ can_keep volumes tokens s x.volume x.token) where
  can : can_store t.volumes t.tokens (session_in j s) x.volume x.token ≡ r
  can = rw (ev, et) (can_same j volumes tokens s x.volume x.token ∙ sym e)

  pub keep_done : (o : CommitOutcome) → not r ≡ false
      → StoredAs volumes (entries_in j entries) (tokens_in j tokens) x.marks x.volume (get_or volumes x.volume blank_volume)
      (get_or (tokens_in j tokens) x.token blank_token) (take s.count (puts_in j s.puts)) (take s.count x.places) x.relays o
      → StoredBy t (session_in j s) x o
  keep_done o g h = record { stored = λ q. rw (ev, ee, et) h; kept = λ q. absurd (not_both (can ∙ not-false r g) q) }

  pub keep_none : (relays : List Relay) (a : Answer) → t.relays ≡ relays → not r ≡ true → a ≡ refusal BAD
      → StoredBy t (session_in j s) x
      (record { answer = a; volumes = volumes; entries = entries_in j entries; tokens = tokens_in j tokens; relays = relays; session = session_in j s })
  keep_none relays a el g h =
      record { stored = λ q. absurd (not_both q (can ∙ not-true r g)); kept = λ q. rw (h, ← ev, ← ee, ← et, ← el) }

-- ---- what is stored, part by part

-- without puts the entries stay
pub keeps_none : (n : VolumeNo) (count : ℕ) (puts : List KeptPut) (places : List Placement) (j : List ℕ) (es : List KeptEntry) → count ≡ 0
    → entries_in j es ≡ store_all n (take count (puts_in j puts)) (take count places) (entries_in j es)
unfolding store_all
keeps_none n count puts places j es z = rw z

-- the bytes that are charged, and the token
pub keeps_charged : (j : List ℕ) (tokens cs : List KeptToken) (k : Token) (i : ℕ) (d : KeptToken) (bytes : ℕ) (puts : List KeptPut) (count : ℕ)
    → tokens_in j cs ≡ map (charged (family (tokens_in j tokens) k) bytes) (tokens_in j tokens) → k ≡ token_in j (get_or tokens i d)
    → bytes ≡ sum_of kept_size (take count puts) → length tokens ≡ 32 → i < 32
    → tokens_in j cs
    ≡ map (charged (family (tokens_in j tokens) (get_or (tokens_in j tokens) i blank_token)) (staged_bytes (take count (puts_in j puts)))) (tokens_in j tokens)
keeps_charged j tokens cs k i d bytes puts count e q f l w =
    e ∙ rw (map_row (token_in j) tokens i d blank_token (omega (arith, l)), ← q, bytes_same j puts count, f)

-- the room that is given back, and where no mark is set the relays stay
pub gives_kept : (j : List ℕ) (vs : List Volume) (es : List KeptEntry) (ms : List Bool) (rs r : List Relay)
    → ((m : List ℕ) → r ≡ map (lightened vs (marked ms (entries_in m es))) rs) → r ≡ map (lightened vs (marked ms (entries_in j es))) rs
gives_kept j vs es ms rs r e = e j

pub gives_none : (vs : List Volume) (es : List Entry) (ms : List Bool) (rs : List Relay) (r : Bool) → r ≡ any_of is_set ms → r ≡ false
    → rs ≡ map (lightened vs (marked ms es)) rs
gives_none vs es ms rs r e f = give_none vs es ms rs r (rw f) e

-- the slot is freed
pub keeps_freed : (j : List ℕ) (s : KeptSession) → s ≡ fresh_kept_session → session_in j s ≡ fresh_session
keeps_freed j s e = rw e
