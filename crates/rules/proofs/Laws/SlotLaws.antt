-- Laws of open, stage, commit and abandon: what each leaves of the tables and its slot, whatever it answers, and what an accepted one found.
-- Assumes nothing.
use Rattle.std.specs.Prelude.{◌≡◌, refl, Bool, true, false, cond, List, ℕ, eqb, leb}
use Rattle.std.proofs.Common.{sym, ◌∙◌, true≢false, le_refl}
use Rattle.std.proofs.lemmas.Bool.{false≢true, not-false}
use Rattle.lists.specs.Lists.{any_of}
use Rattle.serial.specs.Second.{Kind}
use Rattle.serial.specs.Laws.{Silent, Ends}
use Rattle.rules.specs.declared.Placement.{Placement}
use Rattle.rules.specs.declared.Volume.{Volume}
use Rattle.rules.specs.declared.Token.{Token}
use Rattle.rules.specs.declared.Relay.{Relay}
use Rattle.rules.specs.declared.Put.{Put}
use Rattle.rules.specs.declared.Session.{Session}
use Rattle.rules.specs.declared.Answer.{Answer}
use Rattle.rules.specs.declared.Tables.{Tables}
use Rattle.rules.specs.declared.SlotOutcome.{SlotOutcome}
use Rattle.rules.specs.Limits.{slot_rows}
use Rattle.rules.specs.Numbers.{BAD}
use Rattle.rules.specs.Fresh.{fresh_session}
use Rattle.rules.specs.Tables.{busy, staged, is_token}
use Rattle.rules.specs.Scope.{family}
use Rattle.rules.specs.Outcome.{is_accepted, slot_refused, slot_accepted}
use Rattle.rules.specs.Commit.{staged_bytes, charged, committed}
use Rattle.rules.specs.Calls.{Work, work_rule}
use Rattle.rules.proofs.Laws.WorkCases.{WorkEffect, opening, restaging, staging, committing, abandoning, WorkDoes, refuses, takes, work_cases}
use Rattle.rules.proofs.Laws.BranchLaws.{cond_case}
use Rattle.rules.specs.Serial.{kind_of}
use Rattle.rules.proofs.Laws.Later.{SameToken, Later, Tidy}
use Rattle.rules.proofs.Laws.FindLaws.{token_used}
use Rattle.rules.proofs.Laws.LaterLaws.{same_token_lem, kept_map, later_refl}

-- What a call of the kind k does to the tables t and the slot s, whatever it answers.
pub record Does (k : Kind) (t : Tables) (s : Session) (o : SlotOutcome) : Type 0 where
  pub refused : is_accepted o.answer ≡ false → o ≡ slot_refused t s o.answer.number
  pub later : Later t o.tables
  pub tidy : Tidy s → Tidy o.session
  pub silent : Silent k → o.tables ≡ t
  pub ends : Ends k → is_accepted o.answer ≡ true → o.session ≡ fresh_session

-- a check: what stands after it is asked only where it passes
does_check : (k : Kind) (t : Tables) (s : Session) (b : Bool) (n : ℕ) (o : SlotOutcome) → eqb n 0 ≡ false
    → (b ≡ false → Does k t s o) → Does k t s (cond b (slot_refused t s n) o)
does_check k t s true n o e f = record {
  refused = λ r. refl;
  later = later_refl t;
  tidy = λ y. y;
  silent = λ i. refl;
  ends = λ i a. absurd (false≢true (sym e ∙ a));
}
does_check k t s false n o e f = f refl

does_refused : (k : Kind) (t : Tables) (s : Session) (n : ℕ) → eqb n 0 ≡ false → Does k t s (slot_refused t s n)
does_refused k t s n e = does_check k t s true n (slot_refused t s n) e (λ q. absurd (true≢false q))

-- an accepted open or stage
does_prepare : (k : Kind) (t : Tables) (s s' : Session) (v : ℕ) → (Ends k → ⊥) → (Tidy s → Tidy s') → Does k t s (slot_accepted v t s')
does_prepare k t s s' v i f = record {
  refused = λ r. absurd (true≢false r);
  later = later_refl t;
  tidy = f;
  silent = λ j. refl;
  ends = λ j a. absurd (i j);
}

-- an accepted commit or abandon
does_end : (k : Kind) (t t' : Tables) (s : Session) (v : ℕ) → (Silent k → t' ≡ t) → Later t t' → Does k t s (slot_accepted v t' fresh_session)
does_end k t t' s v i l = record {
  refused = λ r. absurd (true≢false r);
  later = l;
  tidy = λ y b. refl;
  silent = i;
  ends = λ j a. refl;
}

-- a busy slot
busy_tidy : (s : Session) → busy s ≡ true → Tidy s
busy_tidy s g b = absurd (true≢false (sym g ∙ b))

-- a commit changes no token but in its used bytes
pub charged_same : (ks : List Token) (bytes : ℕ) (k : Token) → SameToken k (charged ks bytes k)
unfolding charged
charged_same ks bytes k = cond_case (SameToken k) (any_of (is_token k.no) ks) _ k (λ b. record { no = refl; volume = refl; scope = refl }) (λ b. same_token_lem k)

committed_later : (t : Tables) (i : ℕ) (v : Volume) (k : Token) (ps : List Put) (places : List Placement) (rs : List Relay)
    → Later t (committed t i v k ps places rs)
unfolding committed
committed_later t i v k ps places rs = record {
  last = le_refl t.last_token;
  kept = kept_map t.last_token _ t.tokens (charged_same (family t.tokens k) (staged_bytes ps));
}

-- each of the four
effect_does : (t : Tables) (s : Session) {w : Work} {x : Answer} {u : Tables} {r : Session} → WorkEffect t s w x u r
    → Does (kind_of w) t s (record { answer = x; tables = u; session = r })
effect_does t s (opening n i k j v b e p q f r) = does_prepare Kind.opens t s _ _ (λ z. z) (λ y. busy_tidy _ (token_used n t i k e))
effect_does t s (restaging path size x i k j old p q e r f) = does_prepare Kind.stages t s _ _ (λ z. z) (λ y. busy_tidy _ (not-false (busy s) q))
effect_does t s (staging path size x i k p q e r f z) = does_prepare Kind.stages t s _ _ (λ z. z) (λ y. busy_tidy _ (not-false (busy s) q))
effect_does t s (committing a) =
    does_end Kind.commits t _ s _ (λ z. absurd z) (committed_later t a.volume_row_lem a.volume a.token (staged s) a.places a.relays)
effect_does t s (abandoning b) = does_end Kind.abandons t t s _ (λ z. refl) (later_refl t)

pub work_does : (w : Work) (t : Tables) (s : Session) → Does (kind_of w) t s (work_rule w t s)
work_does w t s = go (work_cases t s w)
  where
    go : {o : SlotOutcome} → WorkDoes t s w o → Does (kind_of w) t s o
    go (refuses n e) = does_refused (kind_of w) t s n e
    go (takes x u r y e) = effect_does t s e

-- a call on a slot: 1 for the slot itself, then its rule
abbrev pub slot_rule : ℕ → Work → Tables → Session → SlotOutcome
slot_rule slot w t s = cond (leb slot_rows slot) (slot_refused t s BAD) (work_rule w t s)

pub slot_does : (slot : ℕ) (w : Work) (t : Tables) (s : Session) → Does (kind_of w) t s (slot_rule slot w t s)
slot_does slot w t s = does_check (kind_of w) t s (leb slot_rows slot) BAD (work_rule w t s) refl (λ e. work_does w t s)
