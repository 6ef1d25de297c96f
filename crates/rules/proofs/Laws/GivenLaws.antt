-- The last number of each kind is how many of it were given, after any list of calls from a fresh desk. Assumes nothing.
use Rattle.std.specs.Prelude.{◌≡◌, refl, Bool, true, false, cond, List, [], ◌∷◌, ℕ, ◌+◌, leb, get_or}
use Rattle.std.proofs.Common.{arith}
use Rattle.rules.specs.declared.Answer.{Answer}
use Rattle.rules.specs.declared.Session.{Session}
use Rattle.rules.specs.declared.Tables.{Tables}
use Rattle.rules.specs.declared.Desk.{Desk}
use Rattle.rules.specs.declared.TablesOutcome.{TablesOutcome}
use Rattle.rules.specs.Limits.{slot_rows}
use Rattle.rules.specs.Numbers.{BAD}
use Rattle.rules.specs.Fresh.{fresh_session, fresh_desk}
use Rattle.rules.specs.Tables.{with_clock}
use Rattle.rules.specs.Rent.{epoch_ends}
use Rattle.rules.specs.Sound.{sound}
use Rattle.rules.specs.Outcome.{is_accepted, desk_refused}
use Rattle.rules.specs.VolumeCalls.{drop_entries}
use Rattle.rules.specs.Advance.{relays_leave, settle, at_epoch, is_due, collect, advanced}
use Rattle.rules.specs.Commit.{committed}
use Rattle.rules.specs.Calls.{Ask, Work, work_rule, Call, ask, on_slot, with_slot, rule, step, run}
use Rattle.rules.specs.Numbering.{NumberKind, volumes, tokens, relays, given_by, last_of, same_kind, of_kind, call_gives, list_gives}
use Rattle.rules.proofs.Laws.LiveLaws.{cond_zero}
use Rattle.rules.proofs.Laws.AskCases.{Effect, advances, creates, deposits, deletes, undeletes, grants, attenuates, revokes, removes, looks, registers, beats, Does, refuses, takes, ask_cases}
use Rattle.rules.proofs.Laws.CommitCases.{Accepted, tables_of}
use Rattle.rules.proofs.Laws.WorkCases.{work_tables}

-- the last numbers stay, or one of them is the next
module _ (t u : Tables) where
  kept_last : u.last_volume ≡ t.last_volume → u.last_token ≡ t.last_token → u.last_relay ≡ t.last_relay
      → (k : NumberKind) → last_of k u ≡ last_of k t + 0
  kept_last p q r volumes = omega arith
  kept_last p q r tokens = omega arith
  kept_last p q r relays = omega arith

  volume_last : u.last_volume ≡ t.last_volume + 1 → u.last_token ≡ t.last_token → u.last_relay ≡ t.last_relay
      → (k : NumberKind) → last_of k u ≡ last_of k t + same_kind k volumes
  volume_last p q r volumes = p
  volume_last p q r tokens = omega arith
  volume_last p q r relays = omega arith

  token_last : u.last_volume ≡ t.last_volume → u.last_token ≡ t.last_token + 1 → u.last_relay ≡ t.last_relay
      → (k : NumberKind) → last_of k u ≡ last_of k t + same_kind k tokens
  token_last p q r volumes = omega arith
  token_last p q r tokens = q
  token_last p q r relays = omega arith

  relay_last : u.last_volume ≡ t.last_volume → u.last_token ≡ t.last_token → u.last_relay ≡ t.last_relay + 1
      → (k : NumberKind) → last_of k u ≡ last_of k t + same_kind k relays
  relay_last p q r volumes = omega arith
  relay_last p q r tokens = omega arith
  relay_last p q r relays = r

advanced_last : (block : ℕ) (t : Tables) (k : NumberKind) → last_of k (advanced t block) ≡ last_of k t + 0
unfolding advanced collect drop_entries relays_leave at_epoch settle
advanced_last block t = by (leb 1 (epoch_ends t.clock block))
  where
    by : (b : Bool) (k : NumberKind) → last_of k (collect (is_due block) (at_epoch b (relays_leave (with_clock t block)))) ≡ last_of k t + 0
    by true = kept_last t _ refl refl refl
    by false = kept_last t _ refl refl refl

effect_last : (t : Tables) {a : Ask} {x : Answer} {u : Tables} → Effect t a x u → (k : NumberKind) → last_of k u ≡ last_of k t + of_kind k (given_by a)
unfolding drop_entries
effect_last t (advances block b) = advanced_last block t
effect_last t (creates a name k m cap i old p q r e) = volume_last t _ refl refl refl
effect_last t (deposits n coins i v e p q) = kept_last t _ refl refl refl
effect_last t (deletes a n i v e p q) = kept_last t _ refl refl refl
effect_last t (undeletes a n i v e p q) = kept_last t _ refl refl refl
effect_last t (grants a n s i v j old p e q r z f) = token_last t _ refl refl refl
effect_last t (attenuates n s i k j old p e q r z f) = token_last t _ refl refl refl
effect_last t (revokes a n i k j v e f p) = kept_last t _ refl refl refl
effect_last t (removes a n path i v j e p f q r g z) = kept_last t _ refl refl refl
effect_last t (looks n path i k j e p f q r z g) = kept_last t t refl refl refl
effect_last t (registers capacity i old p q e) = relay_last t _ refl refl refl
effect_last t (beats n i r e p) = kept_last t _ refl refl refl

does_last : (t : Tables) {a : Ask} {o : TablesOutcome} → Does t a o → (k : NumberKind)
    → last_of k o.tables ≡ last_of k t + cond (is_accepted o.answer) (of_kind k (given_by a)) 0
does_last t (refuses n e) k = rw e (omega arith)
does_last t (takes x u y e) k = rw y (effect_last t e k)

commit_last : (t : Tables) (s : Session) (a : Accepted t s) (k : NumberKind) → last_of k (tables_of t s a) ≡ last_of k t + 0
unfolding committed
commit_last t s a = kept_last t _ refl refl refl

work_last : (w : Work) (t : Tables) (s : Session) (k : NumberKind) → last_of k (work_rule w t s).tables ≡ last_of k t + 0
work_last w t s = work_tables (λ (u : Tables). (k : NumberKind) → last_of k u ≡ last_of k t + 0) w t s (kept_last t t refl refl refl) (commit_last t s)

rule_last : (c : Call) (d : Desk) (k : NumberKind)
    → last_of k (rule c d).desk.tables ≡ last_of k d.tables + cond (is_accepted (rule c d).answer) (call_gives k c) 0
unfolding rule
rule_last (ask a) d k = does_last d.tables (ask_cases d.tables a) k
rule_last (on_slot slot w) d k = by (leb slot_rows slot)
  where
    s : Session
    s = get_or d.sessions slot fresh_session

    by : (b : Bool) → let o = cond b (desk_refused d BAD) (with_slot d slot (work_rule w d.tables s)) in
        last_of k o.desk.tables ≡ last_of k d.tables + cond (is_accepted o.answer) 0 0
    by true = omega arith
    by false = rw (cond_zero (is_accepted (work_rule w d.tables s).answer)) (work_last w d.tables s k)

step_last : (c : Call) (d : Desk) (k : NumberKind)
    → last_of k (step c d).desk.tables ≡ last_of k d.tables + cond (is_accepted (step c d).answer) (call_gives k c) 0
unfolding step
step_last c d k = by (sound d)
  where
    by : (b : Bool) → let o = cond b (rule c d) (desk_refused d BAD) in
        last_of k o.desk.tables ≡ last_of k d.tables + cond (is_accepted o.answer) (call_gives k c) 0
    by true = rule_last c d k
    by false = omega arith

last_from : (k : NumberKind) (cs : List Call) (d : Desk) → last_of k (run cs d).tables ≡ last_of k d.tables + list_gives k cs d
unfolding run list_gives
last_from k [] d = omega arith
last_from k (c ∷ cs) d = omega (arith, last_from k cs (step c d).desk, step_last c d k)

fresh_last : (rate : ℕ) (k : NumberKind) → last_of k (fresh_desk rate).tables ≡ 0
fresh_last rate volumes = refl
fresh_last rate tokens = refl
fresh_last rate relays = refl

pub numbers_summed : (rate : ℕ) (cs : List Call) (k : NumberKind) → last_of k (run cs (fresh_desk rate)).tables ≡ list_gives k cs (fresh_desk rate)
numbers_summed rate cs k = omega (arith, last_from k cs (fresh_desk rate), fresh_last rate k)
