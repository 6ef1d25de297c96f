-- The numbers that the checks of a commit give, and what its work answers by them. Assumes nothing.
use Rattle.std.specs.Prelude.{Option, Some, None, Result, Ok, Err, IfOk, ⊤}
use mathlib.Core.Path.{◌≡◌, refl, sym, ◌∙◌, ap}
use Rattle.std.proofs.lemmas.Bool.{eqb-false}
use mathlib.Core.Bool.{Bool, true, false, not, cond, ◌&&◌, and-false}
use mathlib.Core.List.{List}
use Prim.Native.Nat.{ℕ, ◌*◌, ◌<◌, ◌≤◌, ◌^◌}
use native.Mathlib.Omega.{arith}
use borrow.Author.Tests.{not-true, not-false}
use lib.ListN.{take, get_or}
use Rattle.lists.specs.Lists.{Hit, hit, miss, find, first_at, all_of}
use Rattle.lists.specs.BoolLaws.{not_both}
use Rattle.lists.specs.SearchLaws.{first_row_lem, first_miss}
use Rattle.lists.specs.AnswerLaws.{NoRow, AtRow, no_row, at_row, some_given}
use Rattle.rules.specs.declared.VolumeNo.{VolumeNo}
use Rattle.rules.specs.declared.Placement.{Placement}
use Rattle.rules.specs.declared.Volume.{Volume}
use Rattle.rules.specs.declared.Entry.{Entry}
use Rattle.rules.specs.declared.Token.{Token}
use Rattle.rules.specs.declared.Relay.{Relay}
use Rattle.rules.specs.declared.Session.{Session}
use Rattle.rules.specs.declared.Tables.{Tables}
use Rattle.rules.specs.declared.SlotOutcome.{SlotOutcome}
use Rattle.rules.specs.Numbers.{BAD, NO_TOKEN, NO_PLACE, refusal_number, answer_number}
use Rattle.rules.specs.declared.refusals.Refusal.{Refusal}
use Rattle.rules.specs.declared.refusals.Refusal.TheVariants as refusal
use Rattle.rules.specs.Tables.{staged, is_volume, is_token, volume_of, token_of}
use Rattle.rules.specs.Scope.{family}
use Rattle.rules.specs.Outcome.{slot_refused}
use Rattle.rules.specs.Commit.{placed, staged_bytes, place_all}
use Rattle.rows.specs.Blank.{blank_volume}
use Rattle.commits.specs.declared.CommitOutcome.{CommitOutcome}
use Rattle.commits.specs.declared.Plan.{Plan}
use Rattle.commits.specs.declared.checks.Checked.{Checked}
use Rattle.commits.specs.declared.placings.Places.{Places}
use Rattle.commits.specs.Parts.{on_commit}
use Rattle.surveys.specs.RowLimits.{entry_within, volume_within, token_within, relay_within, session_within, can_check}
use Rattle.commits.specs.Within.{in_limits, commit_within}
use Rattle.commits.specs.Stored.{placed_by, StoredBy}
use Rattle.commits.specs.Verdicts.{Judged, JudgedIn, refusal_given, judged_refusal, judged_plan}
use Rattle.rows.specs.Links.{row_if}
use Rattle.surveys.specs.Survey.{Surveyed}
use Rattle.first_checks.specs.Early.{token_fault}
use Rattle.commits.specs.Checks.{limits_fault, rows_fault, fault_at, fault_by, rows_number, placing_of, Ready, RowsFound}
use Rattle.commits.specs.CommitSteps.{kept_ok, relays_ok, volumes_ok, session_ok, puts_ok, count_ok, shards_found, parts_stopped, parts_told, parts_token, parts_stored, idle_stopped}

-- in the function of all checks: r said that their sums fit
module _ (volumes : List Volume) (relays : List Relay) (s : Session) (kept : ℕ) (r : Bool) (e : r ≡ can_check volumes relays s kept) (g : not r ≡ false) where
  told : can_check volumes relays s kept ≡ true
  told = sym e ∙ not-false r g

  pub kept_told : kept ≤ 64 * 2 ^ 36
  kept_told = kept_ok volumes relays s kept told

  -- f is the row of the volume
  pub ready_told : (n : VolumeNo) (f : Option ℕ) (i : ℕ) (d : Volume) → f ≡ first_at (is_volume n) 0 volumes → f ≡ Some i → Ready relays s (get_or volumes i d)
  ready_told n f i d q w =
      let ok = session_ok volumes relays s kept told in
      record {
        shards =
            shards_found volumes n i (get_or volumes i d) (first_row_lem (is_volume n) volumes i (sym q ∙ w) d) (volumes_ok volumes relays s kept told);
        few = count_ok s ok;
        puts = puts_ok s ok;
        rooms = relays_ok volumes relays s kept told;
      }

-- the row that was found, and the placing of the puts there
pub rows_found : (clock : ℕ) (volumes : List Volume) (relays : List Relay) (s : Session) (i : ℕ) (f : Option ℕ) (places : List Placement) (rs : List Relay)
    → f ≡ first_at (is_volume s.volume) 0 volumes → f ≡ Some i → placing_of clock relays s (get_or volumes i blank_volume) ≡ placed places rs
    → RowsFound clock volumes relays s i places rs
rows_found clock volumes relays s i f places rs a b p =
    record { volume = first_row_lem (is_volume s.volume) volumes i (sym a ∙ b) blank_volume; placing = p }

-- the faults of the two rows, one after the other: x is the number that is given back
module _ (clock rate : ℕ) (ks : List Token) (relays : List Relay) (s : Session) (kept rows : ℕ) (v : Volume) (k : Token) (x : ℕ) (f : Result ⊤ Refusal)
    (e : answer_number f ≡ token_fault clock v s.version k) where
  pub fault_first : (why : Refusal) → f ≡ Err why → x ≡ refusal_number why → x ≡ rows_fault clock rate ks relays s kept rows v k
  unfolding rows_fault
  fault_first why n q = q ∙ rw (← e, n, refusal_given why)

  module _ (u : ⊤) (z : f ≡ Ok u) (bytes : ℕ) (l : Result ⊤ Refusal) (b : bytes ≡ staged_bytes (staged s))
      (g : answer_number l ≡ limits_fault rate v ks bytes kept rows) where
    same_over : limits_fault rate v ks (staged_bytes (staged s)) kept rows ≡ answer_number l
    same_over = sym (rw b at g)

    pub fault_next : (why : Refusal) → l ≡ Err why → x ≡ refusal_number why → x ≡ rows_fault clock rate ks relays s kept rows v k
    unfolding rows_fault
    fault_next why n q = q ∙ rw (← e, z, same_over, n, refusal_given why)

    module _ (w : ⊤) (y : l ≡ Ok w) (o : Option Places) (p : placed_by s.count o ≡ place_all clock v.k v.m (take s.count s.puts) relays) where
      pub fault_place : o ≡ None → x ≡ NO_PLACE → x ≡ rows_fault clock rate ks relays s kept rows v k
      unfolding rows_fault
      fault_place n q = q ∙ rw (← e, z, same_over, y, ← p, n)

      pub no_fault : (a : Places) → o ≡ Some a → x ≡ 0 → x ≡ rows_fault clock rate ks relays s kept rows v k
      unfolding rows_fault
      no_fault a n q = q ∙ rw (← e, z, same_over, y, ← p, n)

-- the placing where all puts are placed
pub placed_all : (clock : ℕ) (relays : List Relay) (s : Session) (v : Volume) (o : Option Places) (a : Places)
    → placed_by s.count o ≡ place_all clock v.k v.m (take s.count s.puts) relays → o ≡ Some a
    → placing_of clock relays s v ≡ placed (take s.count a.places) a.rows
placed_all clock relays s v o a p n = sym (rw n at p)

-- the row of the volume, as a number; and then that of the token, which is there or not
module _ (clock rate : ℕ) (ks : List Token) (relays : List Relay) (s : Session) (kept rows : ℕ) where
  pub volume_none : (h : Hit Token) (n : VolumeNo) (volumes : List Volume) → NoRow (fault_by clock rate ks relays s kept rows h) (is_volume n) volumes
  volume_none h n volumes = no_row (fault_by clock rate ks relays s kept rows h) _ _

  pub volume_at : (h : Hit Token) (n : VolumeNo) (volumes : List Volume)
      → AtRow (fault_by clock rate ks relays s kept rows h) (is_volume n) volumes blank_volume
  volume_at h n volumes = at_row (fault_by clock rate ks relays s kept rows h) _ _ _

  module _ (v : Volume) (there : Bool) (k : Token) (x : ℕ) where
    pub token_none : not there ≡ true → x ≡ NO_TOKEN → x ≡ fault_at clock rate ks relays s kept rows v (row_if there k)
    unfolding fault_at
    token_none g q = q ∙ rw (not-true there g)

    pub token_at_lem : not there ≡ false → x ≡ rows_fault clock rate ks relays s kept rows v k
        → x ≡ fault_at clock rate ks relays s kept rows v (row_if there k)
    unfolding fault_at
    token_at_lem g q = q ∙ rw (not-false there g)

-- the row of a token, as it was found
module _ (tokens : List Token) (p : Token → Bool) (f : Option ℕ) (e : f ≡ first_at p 0 tokens) where
  pub token_absent : f ≡ None → find p tokens ≡ miss
  token_absent g = first_miss p tokens (sym e ∙ g)

  pub token_present : (j : ℕ) (d : Token) → f ≡ Some j → find p tokens ≡ hit j (get_or tokens j d)
  token_present j d g = first_row_lem p tokens j (sym e ∙ g) d

-- two parts of which one fails, among others
fails_in : (a b c d : Bool) → (b && c) ≡ false → (a && b && c && d) ≡ false
fails_in a false c d e = rw (and-false a)
fails_in a true false d e = rw (and-false (a && true))
fails_in a true true d e = absurd (not_both refl e)

-- the verdict x of a commit: what was read of the entries, and r, whether the tokens are within their limits
module _ (t : Tables) (s : Session) (x : Result Plan Refusal) (ms : List Bool) (within : Bool) (kept rows : ℕ) (r : Bool)
    (w : Surveyed s.volume (staged s) t.entries ms within kept rows) (l : r ≡ all_of token_within t.tokens) (running : s.token.0 ≡ 0 → ⊥) where
  past_limits : (within && r) ≡ false → commit_within t s ≡ slot_refused t s BAD
  unfolding commit_within in_limits
  past_limits g =
      let m : (all_of entry_within t.entries && all_of token_within t.tokens) ≡ false = rw (w.limits, l) at g in
      rw (
        some_given s.token.0 running,
        fails_in (session_within s && all_of volume_within t.volumes) (all_of entry_within t.entries) (all_of token_within t.tokens) (all_of relay_within t.relays) m,
      )

  module _ (entries-in : within ≡ true) (g : r ≡ true) (there : Bool) (j : ℕ) (k : Token) (number : ℕ)
      (f : find (is_token s.token) t.tokens ≡ cond there (hit j k) miss)
      (e : number ≡ rows_number t.clock t.rate t.volumes (family t.tokens k) t.relays s (row_if there k) kept rows) where
    tokens_in_lem : all_of token_within t.tokens ≡ true
    tokens_in_lem = sym l ∙ g

    refusal_judged : (why : Refusal) → number ≡ refusal_number why → x ≡ Err why → Judged t s (commit_within t s) x
    unfolding token_of
    refusal_judged why n q =
        judged_refusal t s (commit_within t s) x why q
        (parts_stopped t s ms within kept rows there j k number running entries-in tokens_in_lem w f e
        (λ z. eqb-false (refusal_number why) 0 (refusal_given why) (sym n ∙ z))
        ∙ ap (slot_refused t s) n)

    passed_judged : number ≡ 0 → (i : ℕ) (places : List Placement) (rs : List Relay)
        → RowsFound t.clock t.volumes t.relays s i (take s.count places) rs → i < 8 → j < 32
        → x ≡ Ok (record { volume = i; token = j; places = places; relays = rs; marks = ms }) → Judged t s (commit_within t s) x
    unfolding volume_of token_of
    passed_judged z i places rs a h u q =
        judged_plan t s (commit_within t s) x _ q
        (record {
          told = parts_told t s ms within kept rows there j k number running entries-in tokens_in_lem w f e z i places rs a;
          volume = a.volume;
          token = parts_token t s ms within kept rows there j k number running entries-in tokens_in_lem w f e z i places rs a;
          marks = w.replaced;
          placing = a.placing;
          stored = λ o b. parts_stored t s ms within kept rows there j k number running entries-in tokens_in_lem w f e z i places rs a o h u b;
        })

-- the same over the parts that are read
module _ (clock rate : ℕ) (volumes : List Volume) (entries : List Entry) (tokens : List Token) (relays : List Relay) (s : Session) (x : Result Plan Refusal) where
  pub in_idle : s.token.0 ≡ 0 → x ≡ Err refusal.Session → JudgedIn clock rate volumes entries tokens relays s x
  in_idle i q =
      record { judged = λ t ec er ev ee et el. judged_refusal t s (commit_within t s) x refusal.Session q (idle_stopped t s i) }

  module _ (ms : List Bool) (within : Bool) (kept rows : ℕ) (r : Bool) (w : Surveyed s.volume (staged s) entries ms within kept rows)
      (l : r ≡ all_of token_within tokens) (running : s.token.0 ≡ 0 → ⊥) where
    in_limits_lem : (within && r) ≡ false → x ≡ Err refusal.Bad → JudgedIn clock rate volumes entries tokens relays s x
    in_limits_lem g q =
        record {
          judged =
              λ t ec er ev ee et el.
              judged_refusal t s (commit_within t s) x refusal.Bad q (past_limits t s x ms within kept rows r (rw ee w) (rw et l) running g);
        }

    pub in_entries : not within ≡ true → x ≡ Err refusal.Bad → JudgedIn clock rate volumes entries tokens relays s x
    in_entries g = in_limits_lem (rw (not-true within g))

    pub in_tokens : not r ≡ true → x ≡ Err refusal.Bad → JudgedIn clock rate volumes entries tokens relays s x
    in_tokens g = in_limits_lem (rw (not-true r g) (and-false within))

    module _ (g : not within ≡ false) (y : not r ≡ false) (there : Bool) (j : ℕ) (k : Token) (ks : List Token) (c : Result Checked Refusal)
        (f : find (is_token s.token) tokens ≡ cond there (hit j k) miss) (a : ks ≡ family tokens k)
        (e : answer_number c ≡ rows_number clock rate volumes ks relays s (row_if there k) kept rows) where
      pub in_refused : (why : Refusal) → c ≡ Err why → x ≡ Err why → JudgedIn clock rate volumes entries tokens relays s x
      in_refused why n q =
          record {
            judged =
                λ t ec er ev ee et el.
                refusal_judged t s x ms within kept rows r (rw ee w) (rw et l) running (not-false within g) (not-false r y) there j k (answer_number c) (rw et f)
                (rw (ec, er, ev, et, el, ← a) e) why (rw n) q;
          }

      pub in_passed : (o : Checked) → c ≡ Ok o → IfOk c (λ o. RowsFound clock volumes relays s o.row (take s.count o.p.places) o.p.rows)
          → IfOk c (λ o. o.row < 8) → j < 32
          → x ≡ Ok (record { volume = o.row; token = j; places = o.p.places; relays = o.p.rows; marks = ms })
          → JudgedIn clock rate volumes entries tokens relays s x
      in_passed o n b h u q =
          let b₁ : RowsFound clock volumes relays s o.row (take s.count o.p.places) o.p.rows = rw n at b in
          let h₁ : o.row < 8 = rw n at h in
          record {
            judged =
                λ t ec er ev ee et el.
                passed_judged t s x ms within kept rows r (rw ee w) (rw et l) running (not-false within g) (not-false r y) there j k (answer_number c) (rw et f)
                (rw (ec, er, ev, et, el, ← a) e) (rw n) o.row o.p.places o.p.rows (rw (ec, ev, el) b₁) h₁ u q;
          }

  -- no family has more than 8
  pub in_long : (n : ℕ) → 8 < n → n ≤ 8 → JudgedIn clock rate volumes entries tokens relays s x
  in_long n h k = absurd (omega arith)

-- a verdict that is given by what was read, of any tables of which it was read
pub given_judged : (clock rate : ℕ) (volumes : List Volume) (entries : List Entry) (tokens : List Token) (relays : List Relay) (s : Session) (x : Result Plan Refusal)
    (ms : List Bool) (within : Bool) (kept rows : ℕ) (r there : Bool) (j : ℕ) (k : Token) (ks : List Token) (n : ℕ)
    → ((es : List Entry) (ts : List Token) → Surveyed s.volume (take s.count s.puts) es ms within kept rows → r ≡ all_of token_within ts
    → find (is_token s.token) ts ≡ cond there (hit j k) miss → j < 32 → ks ≡ family ts k → n ≤ 8 → JudgedIn clock rate volumes es ts relays s x)
    → Surveyed s.volume (take s.count s.puts) entries ms within kept rows → r ≡ all_of token_within tokens
    → find (is_token s.token) tokens ≡ cond there (hit j k) miss → j < 32 → ks ≡ family tokens k → n ≤ 8
    → JudgedIn clock rate volumes entries tokens relays s x
given_judged clock rate volumes entries tokens relays s x ms within kept rows r there j k ks n g w l f h a b = g entries tokens w l f h a b

-- what a commit answers by its verdict x
module _ (t : Tables) (s : Session) (x : Result Plan Refusal) (j : JudgedIn t.clock t.rate t.volumes t.entries t.tokens t.relays s x) (v : SlotOutcome) where
  verdict : Judged t s (commit_within t s) x
  verdict = j.judged t refl refl refl refl refl refl

  pub verdict_refused : (why : Refusal) → x ≡ Err why → v ≡ slot_refused t s (refusal_number why) → v ≡ commit_within t s
  verdict_refused why n q = q ∙ sym (verdict.refused why n)

  pub verdict_stored : (plan : Plan) → x ≡ Ok plan → (o : CommitOutcome) → StoredBy t s plan o → v ≡ on_commit t o → v ≡ commit_within t s
  verdict_stored plan z o h q = q ∙ (verdict.passed plan z).stored o h
