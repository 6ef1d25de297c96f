-- What the checks of a commit say of it, and the plan by which one that they do not refuse is stored. Assumes nothing.
use Rattle.std.specs.Prelude.{◌≡◌, refl, false, List, map, ℕ, take, get_or, eqb, Result, Ok, Err, IsErrAnd}
use Rattle.std.proofs.Common.{sym, ap}
use Rattle.std.proofs.lemmas.Bool.{eqb-false}
use Rattle.lists.specs.Lists.{hit}
use Rattle.rules.specs.declared.Volume.{Volume}
use Rattle.rules.specs.declared.Entry.{Entry}
use Rattle.rules.specs.declared.Token.{Token}
use Rattle.rules.specs.declared.Relay.{Relay}
use Rattle.rules.specs.declared.Session.{Session}
use Rattle.rules.specs.declared.Tables.{Tables}
use Rattle.rules.specs.declared.SlotOutcome.{SlotOutcome}
use Rattle.rules.specs.Numbers.{refusal_number, answer_number}
use Rattle.rules.specs.declared.refusals.Refusal.{Refusal}
use Rattle.rules.specs.declared.refusals.Refusal.TheVariants as refusal
use Rattle.rules.specs.Tables.{staged, volume_of, token_of}
use Rattle.rules.specs.Outcome.{slot_refused}
use Rattle.rules.specs.Commit.{placed, is_replaced}
use Rattle.rows.specs.Blank.{blank_volume, blank_token}
use Rattle.commits.specs.declared.CommitOutcome.{CommitOutcome}
use Rattle.commits.specs.declared.Plan.{Plan}
use Rattle.commits.specs.Parts.{on_commit}
use Rattle.commits.specs.Stored.{StoredBy}
use Rattle.commits.specs.Checks.{placing_of}
use Rattle.commits.specs.Within.{commit_within}

-- x is the plan of a commit whose outcome is y: it is accepted, and the plan has the rows of the session's volume and token, a mark for each entry that the puts
-- replace, and their placing, a place for each put (places after these are not read); and storing by it gives the outcome
pub record Passed (t : Tables) (s : Session) (y : SlotOutcome) (x : Plan) : Type 0 where
  pub told : y.answer.number ≡ 0
  pub volume : volume_of s.volume t ≡ hit x.volume (get_or t.volumes x.volume blank_volume)
  pub token : token_of s.token t ≡ hit x.token (get_or t.tokens x.token blank_token)
  pub marks : x.marks ≡ map (is_replaced s.volume (staged s)) t.entries
  pub placing : placing_of t.clock t.relays s (get_or t.volumes x.volume blank_volume) ≡ placed (take s.count x.places) x.relays
  pub stored : (o : CommitOutcome) → StoredBy t s x o → on_commit t o ≡ y

-- x is what the checks say of a commit whose outcome is y: its number is the one that the commit answers. Where that is a refusal, nothing changes. Else there is a plan
pub record Judged (t : Tables) (s : Session) (y : SlotOutcome) (x : Result Plan Refusal) : Type 0 where
  pub told : answer_number x ≡ y.answer.number
  pub refused : (why : Refusal) → x ≡ Err why → y ≡ slot_refused t s (refusal_number why)
  pub passed : (plan : Plan) → x ≡ Ok plan → Passed t s y plan

-- so on all tables that have these parts
pub record JudgedIn (clock rate : ℕ) (volumes : List Volume) (entries : List Entry) (tokens : List Token) (relays : List Relay) (s : Session)
    (x : Result Plan Refusal) : Type 0 where
  pub judged : (t : Tables) → t.clock ≡ clock → t.rate ≡ rate → t.volumes ≡ volumes → t.entries ≡ entries → t.tokens ≡ tokens → t.relays ≡ relays
      → Judged t s (commit_within t s) x

-- a number that is given back is that of a refusal where it is not 0
pub refusal_given : (why : Refusal) → eqb (refusal_number why) 0 ≡ false
refusal_given refusal.Bad = refl
refusal_given refusal.NoVolume = refl
refusal_given refusal.NotOwner = refl
refusal_given refusal.NoToken = refl
refusal_given refusal.Window = refl
refusal_given refusal.Mode = refl
refusal_given refusal.Prefix = refl
refusal_given refusal.State = refl
refusal_given refusal.Conflict = refl
refusal_given refusal.Quota = refl
refusal_given refusal.Size = refl
refusal_given refusal.Room = refl
refusal_given refusal.Rent = refl
refusal_given refusal.NoPlace = refl
refusal_given refusal.NoEntry = refl
refusal_given refusal.Clock = refl
refusal_given refusal.Widens = refl
refusal_given refusal.Deep = refl
refusal_given refusal.Session = refl
refusal_given refusal.TooMuch = refl
refusal_given refusal.Spent = refl
refusal_given refusal.NameTaken = refl
refusal_given refusal.NoRelay = refl

-- what `?` gives back of a refusal
pub passed_on : {A : Type 0} (r : Result A Refusal) (why : Refusal) → IsErrAnd r (λ e. e ≡ why) → r ≡ Err why
passed_on (Ok x) why p = absurd p
passed_on (Err e) why p = rw p

-- a refusal is no plan
err_ok : (why : Refusal) (plan : Plan) → ◌≡◌ {A = Result Plan Refusal} (Err why) (Ok plan) → ⊥
err_ok why plan q = eqb-false (refusal_number why) 0 (refusal_given why) (ap (λ (v : Result Plan Refusal). answer_number v) q)

abbrev plan_or : Plan → Result Plan Refusal → Plan
plan_or x (Ok y) = y
plan_or x (Err why) = x

-- the verdict of a refusal, and that of a plan
module _ (t : Tables) (s : Session) (y : SlotOutcome) where
  pub judged_refusal : (x : Result Plan Refusal) (why : Refusal) → x ≡ Err why → y ≡ slot_refused t s (refusal_number why) → Judged t s y x
  judged_refusal x why q e = rw q (record { told = rw e; refused = λ w p. rw e (ap (slot_refused t s) (same_why w p)); passed = λ p z. absurd (err_ok why p z) })
    where
      same_why : (w : Refusal) → ◌≡◌ {A = Result Plan Refusal} (Err why) (Err w) → refusal_number why ≡ refusal_number w
      same_why w p = ap (λ (v : Result Plan Refusal). answer_number v) p

  pub judged_plan : (x : Result Plan Refusal) (plan : Plan) → x ≡ Ok plan → Passed t s y plan → Judged t s y x
  judged_plan x plan q h =
      rw q (record { told = sym h.told; refused = λ w p. absurd (err_ok w plan (sym p)); passed = λ w p. rw (same_plan w p) at h })
    where
      same_plan : (w : Plan) → ◌≡◌ {A = Result Plan Refusal} (Ok plan) (Ok w) → plan ≡ w
      same_plan w p = ap (plan_or plan) p
