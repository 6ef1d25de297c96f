-- A commit step by step: what its work answers by the number of the checks, and what storing by their plan makes of the tables. Assumes nothing.
use Rattle.std.specs.Prelude.{◌≡◌, Bool, not, cond, ◌&&◌, List, map, ℕ, ◌+◌, ◌*◌, ◌<◌, ◌≤◌, ◌^◌, leb, take, get_or}
use Rattle.std.proofs.Math.Path.{refl, sym, ap}
use Rattle.std.proofs.Common.{◌∙◌, arith}
use Rattle.std.proofs.Math.Bool.{true, false, and-true}
use borrow.Author.Tests.{ne_eqb, eqb-true, leb-true, leb-false, le-leb, lt-ltb}
use Rattle.std.proofs.Math.Dec.{eqb}
use Rattle.lists.specs.Lists.{Hit, hit, miss, find, all_of, count_if}
use Rattle.lists.specs.BoolLaws.{and_left, and_right, and_both}
use Rattle.lists.specs.SearchLaws.{row_passes, found_at}
use Rattle.lists.specs.AnswerLaws.{none_given, some_given}
use Rattle.rules.specs.declared.VolumeNo.{VolumeNo}
use Rattle.rules.specs.declared.Placement.{Placement}
use Rattle.rules.specs.declared.Volume.{Volume}
use Rattle.rules.specs.declared.Token.{Token}
use Rattle.rules.specs.declared.Relay.{Relay}
use Rattle.rules.specs.declared.Session.{Session}
use Rattle.rules.specs.declared.Tables.{Tables}
use Rattle.rules.specs.declared.SlotOutcome.{SlotOutcome}
use Rattle.rules.specs.Limits.{put_rows, last_version}
use Rattle.rules.specs.Numbers.{BAD, WINDOW, STATE, CONFLICT, SPENT, QUOTA, SIZE, ROOM, RENT, SESSION}
use Rattle.rules.specs.Tables.{staged, used_entry, free_volume, is_volume, is_token, volume_of, token_of}
use Rattle.rules.specs.Scope.{in_window, family}
use Rattle.rules.specs.Sound.{shards_fit}
use Rattle.rules.specs.Outcome.{slot_refused}
use Rattle.rules.specs.VolumeCalls.{is_active}
use Rattle.rules.proofs.Laws.ApartLaws.{used_not_free, other_part}
use Rattle.rules.proofs.Laws.NumberLaws.{numbered_used, numbered_eq, found_passes}
use Rattle.rules.specs.Commit.{Placed, no_place, placed, staged_bytes, is_replaced, is_new_path, passes_quotas, passes_size, passes_room, below_rent, place_all, committed, commit_placed, commit_limits, commit_token, commit_volume}
use Rattle.rows.specs.Blank.{blank_volume, blank_token}
use Rattle.entries.specs.MarkLaws.{marked_keep}
use Rattle.commits.specs.declared.CommitOutcome.{CommitOutcome}
use Rattle.commits.specs.Parts.{on_commit}
use Rattle.surveys.specs.RowLimits.{volume_within, token_within, relay_within, put_within, session_within, can_store, can_check}
use Rattle.commits.specs.Within.{in_limits, commit_within}
use Rattle.surveys.specs.Survey.{kept_bytes, Surveyed}
use Rattle.commits.specs.Stored.{StoredAs, StoredBy}
use Rattle.rows.specs.Links.{row_if}
use Rattle.first_checks.specs.Early.{token_fault}
use Rattle.commits.specs.Checks.{limits_fault, or_else, place_fault, placing_of, rows_fault, fault_at, fault_by, rows_number, RowsFound}
use Rattle.commits.specs.CommitSums.{size_passes, rent_passes, staged_small}

-- the answer by a number: the refusal with it, or the rest where it is 0
abbrev answered : {A : Type 0} → (ℕ → A) → A → ℕ → A
answered refuse rest n = cond (eqb n 0) rest (refuse n)

module _ {A : Type 0} (refuse : ℕ → A) (rest : A) where
  -- of four checks in a row
  four : (a b c d : Bool) (p q r u : ℕ) → eqb p 0 ≡ false → eqb q 0 ≡ false → eqb r 0 ≡ false → eqb u 0 ≡ false
      → cond a (refuse p) (cond b (refuse q) (cond c (refuse r) (cond d (refuse u) rest)))
      ≡ answered refuse rest (cond a p (cond b q (cond c r (cond d u 0))))
  four true b c d p q r u e f g h = sym (rw e)
  four false true c d p q r u e f g h = sym (rw f)
  four false false true d p q r u e f g h = sym (rw g)
  four false false false true p q r u e f g h = sym (rw h)
  four false false false false p q r u e f g h = refl

  -- of a number, or else another
  two : (n m : ℕ) → answered refuse (answered refuse rest m) n ≡ answered refuse rest (or_else n m)
  two n m = go (eqb n 0) refl
    where
      go : (b : Bool) → eqb n 0 ≡ b → cond b (answered refuse rest m) (refuse n) ≡ answered refuse rest (cond b m n)
      go true q = refl
      go false q = sym (rw q)

module _ (t : Tables) (s : Session) (i : ℕ) (v : Volume) (k : Token) where
  abbrev placing : SlotOutcome
  placing = commit_placed t s i v k (place_all t.clock v.k v.m (staged s) t.relays)

  by_place : (p : Placed) → commit_placed t s i v k p ≡ answered (slot_refused t s) (commit_placed t s i v k p) (place_fault p)
  unfolding commit_placed
  by_place no_place = refl
  by_place (placed places rs) = refl

  by_token : (j : ℕ) → commit_token t s i v (hit j k) ≡ answered (slot_refused t s) (commit_limits t s i v k) (token_fault t.clock v s.version k)
  unfolding commit_token token_fault
  by_token j =
      four (slot_refused t s) (commit_limits t s i v k) (not (in_window t.clock k.scope)) (not (is_active v.status))
      (not (eqb v.version s.version)) (leb last_version v.version) WINDOW STATE CONFLICT SPENT refl refl refl refl

  module _ (kept rows : ℕ) (e : kept ≡ kept_bytes v.no (staged s) t.entries)
      (f : rows ≡ count_if used_entry t.entries + count_if (is_new_path v.no t.entries) (staged s)) (shards : shards_fit v.k v.m ≡ true)
      (small : kept ≤ 64 * 2 ^ 36) (few : staged_bytes (staged s) ≤ 8 * 2 ^ 36) where
    same_limits : limits_fault t.rate v (family t.tokens k) (staged_bytes (staged s)) kept rows
        ≡ cond (passes_quotas t k (staged s)) QUOTA
        (cond (passes_size t v (staged s)) SIZE (cond (passes_room t v (staged s)) ROOM (cond (below_rent t v (staged s)) RENT 0)))
    unfolding limits_fault passes_quotas passes_room
    same_limits =
        rw (
          size_passes t v (staged s) kept (staged_bytes (staged s)) e refl _ refl,
          rent_passes t v (staged s) kept (staged_bytes (staged s)) e refl _ shards small few refl,
          f,
        )

    by_limits : commit_limits t s i v k
        ≡ answered (slot_refused t s) placing (limits_fault t.rate v (family t.tokens k) (staged_bytes (staged s)) kept rows)
    unfolding commit_limits
    by_limits =
        four (slot_refused t s) placing (passes_quotas t k (staged s)) (passes_size t v (staged s)) (passes_room t v (staged s)) (below_rent t v (staged s))
        QUOTA SIZE ROOM RENT refl refl refl refl
        ∙ ap (answered (slot_refused t s) placing) (sym same_limits)

    abbrev limits_number : ℕ
    limits_number = limits_fault t.rate v (family t.tokens k) (staged_bytes (staged s)) kept rows

    abbrev place_number_lem : ℕ
    place_number_lem = place_fault (placing_of t.clock t.relays s v)

    by_both : commit_limits t s i v k ≡ answered (slot_refused t s) placing (or_else limits_number place_number_lem)
    by_both =
        by_limits
        ∙ ap (λ x. answered (slot_refused t s) x limits_number) (by_place (placing_of t.clock t.relays s v))
        ∙ two (slot_refused t s) placing limits_number place_number_lem

    by_rows : (j : ℕ) → commit_token t s i v (hit j k)
        ≡ answered (slot_refused t s) placing (rows_fault t.clock t.rate (family t.tokens k) t.relays s kept rows v k)
    unfolding rows_fault
    by_rows j =
        by_token j
        ∙ ap (λ x. answered (slot_refused t s) x (token_fault t.clock v s.version k)) by_both
        ∙ two (slot_refused t s) placing (token_fault t.clock v s.version k) (or_else limits_number place_number_lem)

-- the limits of a session
module _ (s : Session) (e : session_within s ≡ true) where
  pub puts_ok : all_of put_within (take s.count s.puts) ≡ true
  unfolding session_within
  puts_ok = and_right (leb s.count put_rows) (all_of put_within (staged s)) e

  pub count_ok : s.count ≤ 8
  unfolding session_within
  count_ok = leb-true s.count put_rows (and_left (leb s.count put_rows) (all_of put_within (staged s)) e)

-- those that the checks rest on, part by part
module _ (volumes : List Volume) (relays : List Relay) (s : Session) (kept : ℕ) (e : can_check volumes relays s kept ≡ true) where
  abbrev two_parts : Bool
  two_parts = session_within s && all_of volume_within volumes

  pub kept_ok : kept ≤ 64 * 2 ^ 36
  unfolding can_check
  kept_ok = leb-true kept (64 * 2 ^ 36) (and_right (two_parts && all_of relay_within relays) (leb kept (64 * 2 ^ 36)) e)

  three_ok : (two_parts && all_of relay_within relays) ≡ true
  unfolding can_check
  three_ok = and_left (two_parts && all_of relay_within relays) (leb kept (64 * 2 ^ 36)) e

  pub relays_ok : all_of relay_within relays ≡ true
  relays_ok = and_right two_parts (all_of relay_within relays) three_ok

  two_ok : two_parts ≡ true
  two_ok = and_left two_parts (all_of relay_within relays) three_ok

  pub volumes_ok : all_of volume_within volumes ≡ true
  volumes_ok = and_right (session_within s) (all_of volume_within volumes) two_ok

  pub session_ok : session_within s ≡ true
  session_ok = and_left (session_within s) (all_of volume_within volumes) two_ok

-- a volume that was found: K and M, and its number
module _ (vs : List Volume) (n : VolumeNo) (i : ℕ) (v : Volume) (q : find (is_volume n) vs ≡ hit i v) where
  pub shards_found : all_of volume_within vs ≡ true → shards_fit v.k v.m ≡ true
  unfolding volume_within
  shards_found e =
      let u = numbered_used n.0 v.no.0 (row_passes (is_volume n) vs 0 i v q) in
      other_part (free_volume v) (shards_fit v.k v.m) (used_not_free v.no.0 u) (found_passes (is_volume n) volume_within vs i v e q)

  abbrev number_as : ℕ → VolumeNo
  number_as m = record { 0 = m }

  number_found : v.no ≡ n
  number_found = ap number_as (numbered_eq n.0 v.no.0 (row_passes (is_volume n) vs 0 i v q))

-- where every check passed
module _ (clock rate : ℕ) (volumes : List Volume) (ks : List Token) (relays : List Relay) (s : Session) (there : Bool) (k : Token) (kept rows number : ℕ)
    (e : number ≡ rows_number clock rate volumes ks relays s (row_if there k) kept rows) (z : number ≡ 0) where
  all_parts : can_check volumes relays s kept ≡ true
  unfolding rows_number
  all_parts = go (can_check volumes relays s kept) refl
    where
      go : (b : Bool) → can_check volumes relays s kept ≡ b → b ≡ true
      go true q = refl
      go false q = let m : number ≡ BAD = e ∙ rw q in absurd (omega (arith, m, z))

  module _ (i : ℕ) (places : List Placement) (rs : List Relay) (r : RowsFound clock volumes relays s i places rs) where
    abbrev v : Volume
    v = get_or volumes i blank_volume

    passed_at : fault_at clock rate ks relays s kept rows v (row_if there k) ≡ 0
    unfolding rows_number fault_by
    passed_at = sym (rw (all_parts, r.volume) at e) ∙ z

    pub passed_there : there ≡ true
    unfolding fault_at
    passed_there = go there passed_at
      where
        go : (b : Bool) → fault_at clock rate ks relays s kept rows v (row_if b k) ≡ 0 → b ≡ true
        go true q = refl
        go false q = absurd (omega (arith, q))

    passed_rows : rows_fault clock rate ks relays s kept rows v k ≡ 0
    unfolding fault_at
    passed_rows = rw passed_there at passed_at

    passed_version : v.version < last_version
    unfolding rows_fault token_fault
    passed_version =
        leb-false last_version v.version
        (last_passes (not (in_window clock k.scope)) (not (is_active v.status)) (not (eqb v.version s.version)) (leb last_version v.version)
        (first_zero _ _ passed_rows))
      where
        first_zero : (n m : ℕ) → or_else n m ≡ 0 → n ≡ 0
        first_zero n m q = go (eqb n 0) refl
          where
            go : (b : Bool) → eqb n 0 ≡ b → n ≡ 0
            go true w = eqb-true n 0 w
            go false w = rw w at q

        last_passes : (a b c d : Bool) → cond a WINDOW (cond b STATE (cond c CONFLICT (cond d SPENT 0))) ≡ 0 → d ≡ false
        last_passes true b c d q = absurd (omega (arith, q))
        last_passes false true c d q = absurd (omega (arith, q))
        last_passes false false true d q = absurd (omega (arith, q))
        last_passes false false false true q = absurd (omega (arith, q))
        last_passes false false false false q = refl

    -- so the puts can be stored
    pub passed_store : (tokens : List Token) → i < 8 → (j : ℕ) → j < 32 → all_of token_within tokens ≡ true → can_store volumes tokens s i j ≡ true
    unfolding can_store
    passed_store tokens h j u w =
        and_both
        (and_both (and_both (and_both (lt-ltb i 8 h) (lt-ltb v.version last_version passed_version)) (session_ok volumes relays s kept all_parts)) w)
        (lt-ltb j 32 u)

-- the answer, where ms are the marks of the entries that are replaced
stores_answer : (t : Tables) (s : Session) (ms : List Bool) (i : ℕ) (v : Volume) (k : Token) (places : List Placement) (rs : List Relay) (o : CommitOutcome)
    → ms ≡ map (is_replaced v.no (staged s)) t.entries → StoredAs t.volumes t.entries t.tokens ms i v k (staged s) places rs o
    → on_commit t o ≡ commit_placed t s i v k (placed places rs)
unfolding commit_placed committed
stores_answer t s ms i v k places rs o m h =
    rw (h.answer, h.newer, h.stored, h.charges, h.lighter, h.freed, m, marked_keep (is_replaced v.no (staged s)) t.entries)

-- what the work answers by the number of the checks, where the entries and the tokens are within their limits, and the token has the row k, if it is there
module _ (t : Tables) (s : Session) (ms : List Bool) (within : Bool) (kept rows : ℕ) (there : Bool) (j : ℕ) (k : Token) (number : ℕ)
    (running : s.token.0 ≡ 0 → ⊥) (entries-in : within ≡ true) (tokens_in_lem : all_of token_within t.tokens ≡ true)
    (w : Surveyed s.volume (staged s) t.entries ms within kept rows) (f : token_of s.token t ≡ cond there (hit j k) miss)
    (e : number ≡ rows_number t.clock t.rate t.volumes (family t.tokens k) t.relays s (row_if there k) kept rows) where
  abbrev can : Bool
  can = can_check t.volumes t.relays s kept

  same_parts : in_limits t s ≡ can
  unfolding in_limits can_check
  same_parts =
      let l = le-leb kept (64 * 2 ^ 36) w.small in
      let g = sym w.limits ∙ entries-in in
      rw (g, tokens_in_lem, l) (simp and-true)

  at_rows : can ≡ true → (i : ℕ) (v : Volume) → find (is_volume s.volume) t.volumes ≡ hit i v
      → commit_token t s i v (hit j k) ≡ answered (slot_refused t s) (placing t s i v k) (rows_fault t.clock t.rate (family t.tokens k) t.relays s kept rows v k)
  at_rows ok i v q =
      let m = number_found t.volumes s.volume i v q in
      let h = session_ok t.volumes t.relays s kept ok in
      by_rows t s i v k kept rows (rw m (w.stays entries-in)) (rw m w.room)
      (shards_found t.volumes s.volume i v q (volumes_ok t.volumes t.relays s kept ok)) w.small
      (staged_small s.puts s.count (count_ok s h) (puts_ok s h)) j

  abbrev checked : SlotOutcome
  checked = cond (not (in_limits t s)) (slot_refused t s BAD) (commit_volume t s (volume_of s.volume t))

  runs : commit_within t s ≡ checked
  unfolding commit_within
  runs = rw (some_given s.token.0 running)

  module _ (n : number ≡ 0 → ⊥) where
    stops_at : can ≡ true → (i : ℕ) (v : Volume) → find (is_volume s.volume) t.volumes ≡ hit i v → (b : Bool)
        → number ≡ fault_at t.clock t.rate (family t.tokens k) t.relays s kept rows v (row_if b k) → commit_token t s i v (cond b (hit j k) miss) ≡ slot_refused t s number
    unfolding commit_token fault_at
    stops_at ok i v q false g = rw g
    stops_at ok i v q true g = at_rows ok i v q ∙ rw (← g, ne_eqb number 0 n)

    stops_in : can ≡ true → (h : Hit Volume) → find (is_volume s.volume) t.volumes ≡ h
        → number ≡ fault_by t.clock t.rate (family t.tokens k) t.relays s kept rows (row_if there k) h → commit_volume t s h ≡ slot_refused t s number
    unfolding commit_volume fault_by
    stops_in ok miss q g = rw g
    stops_in ok (hit i v) q g = rw f (stops_at ok i v q there g)

    pub parts_stopped : commit_within t s ≡ slot_refused t s number
    unfolding rows_number volume_of
    parts_stopped = runs ∙ go can refl
      where
        go : (b : Bool) → can ≡ b → checked ≡ slot_refused t s number
        go true q = rw (same_parts, q) (stops_in q (find (is_volume s.volume) t.volumes) refl (e ∙ rw q))
        go false q = let m : number ≡ BAD = e ∙ rw q in rw (same_parts, q, m)

  module _ (z : number ≡ 0) (i : ℕ) (places : List Placement) (rs : List Relay)
      (r : RowsFound t.clock t.volumes t.relays s i (take s.count places) rs) where
    abbrev row : Volume
    row = get_or t.volumes i blank_volume

    passes_checked : checked ≡ commit_placed t s i row k (placed (take s.count places) rs)
    unfolding commit_volume volume_of
    passes_checked =
        let ok = all_parts t.clock t.rate t.volumes (family t.tokens k) t.relays s there k kept rows number e z in
        let yes = passed_there t.clock t.rate t.volumes (family t.tokens k) t.relays s there k kept rows number e z i (take s.count places) rs r in
        let none = passed_rows t.clock t.rate t.volumes (family t.tokens k) t.relays s there k kept rows number e z i (take s.count places) rs r in
        rw (same_parts, ok, r.volume, f, yes) (at_rows ok i row r.volume ∙ rw (none, r.placing))

    -- and so it answers 0
    pub parts_told : (commit_within t s).answer.number ≡ 0
    unfolding commit_placed committed
    parts_told = rw (runs, passes_checked)

    token_there : token_of s.token t ≡ hit j k
    token_there =
        let yes = passed_there t.clock t.rate t.volumes (family t.tokens k) t.relays s there k kept rows number e z i (take s.count places) rs r in
        f ∙ rw yes

    token_row_lem : get_or t.tokens j blank_token ≡ k
    unfolding token_of
    token_row_lem = found_at (is_token s.token) t.tokens j k token_there blank_token

    pub parts_token : token_of s.token t ≡ hit j (get_or t.tokens j blank_token)
    parts_token = rw token_row_lem token_there

    pub parts_stored : (o : CommitOutcome) → i < 8 → j < 32
        → StoredBy t s (record { volume = i; token = j; places = places; relays = rs; marks = ms }) o → on_commit t o ≡ commit_within t s
    parts_stored o h u g =
        let m : ms ≡ map (is_replaced row.no (staged s)) t.entries = rw (number_found t.volumes s.volume i row r.volume) w.replaced in
        let storable =
        passed_store t.clock t.rate t.volumes (family t.tokens k) t.relays s there k kept rows number e z i (take s.count places) rs r t.tokens h j u tokens_in_lem in
        stores_answer t s ms i row k (take s.count places) rs o m (rw token_row_lem at (g.stored storable)) ∙ sym passes_checked ∙ sym runs

-- 19
pub idle_stopped : (t : Tables) (s : Session) → s.token.0 ≡ 0 → commit_within t s ≡ slot_refused t s SESSION
unfolding commit_within
idle_stopped t s e = rw (none_given s.token.0 e)
