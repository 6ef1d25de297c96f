-- Demand 3 for our desk, from the law that every call keeps a sound desk sound, which is an argument. Assumes nothing else.
use Rattle.std.specs.Prelude.{◌≡◌, refl, true, false, ℕ, leb, length}
use Rattle.std.proofs.Common.{sym, ◌∙◌, subst, ap, arith}
use Rattle.serial.specs.Second.{Kind, plain, on}
use Rattle.serial.specs.Laws.{Prepares, Silent, Ends}
use Rattle.serial.proofs.Local.{Local, Passes, Rules, laws}
use Rattle.serial.proofs.Replay.{serial}
use Rattle.rules.specs.declared.Answer.{Answer}
use Rattle.rules.specs.declared.Session.{Session}
use Rattle.rules.specs.declared.Tables.{Tables}
use Rattle.rules.specs.declared.SlotOutcome.{SlotOutcome}
use Rattle.rules.specs.declared.Desk.{Desk}
use Rattle.rules.specs.Limits.{slot_rows}
use Rattle.rules.specs.Numbers.{BAD}
use Rattle.rules.specs.Fresh.{fresh_session, fresh_desk}
use Rattle.rules.specs.Outcome.{refusal, is_accepted}
use Rattle.rules.specs.Sound.{sound}
use Rattle.rules.specs.Calls.{ask_rule, Work, opens, stages, commits, abandons, work_rule, Call, ask, on_slot}
use Rattle.rules.proofs.Laws.SoundParts.{Parts, tables_sound}
use Rattle.rules.specs.Serial.{kind_of, role, step_of, tables_of, Demand3}
use Rattle.rules.proofs.Laws.Later.{Later, Ready, Tidy}
use Rattle.rules.proofs.Laws.LaterLaws.{later_refl, later_trans, ask_later}
use Rattle.rules.proofs.Laws.SlotLaws.{slot_rule, slot_does}
use Rattle.rules.proofs.Laws.FoundLaws.{passed, open_found_lem, open_before, stage_before, commit_ready}
use Rattle.rules.proofs.Laws.AgainLaws.{open_again, stage_again}
use Rattle.rules.proofs.Laws.InOrder.{Stays, slot_of, InOrder}
use Rattle.rules.proofs.Laws.InOrderLaws.{fresh_slot, fresh_in_order, ask_step, slot_answer, slot_tables, slot_session, slot_others, call_in_order}

-- The step on the tables and one slot.
abbrev ask_of : Call → Tables → Answer × Tables
ask_of (ask a) t = ((ask_rule a t).answer, (ask_rule a t).tables)
ask_of (on_slot slot w) t = (refusal BAD, t)

abbrev work_of : Call → Tables → Session → Answer × Tables × Session
work_of (ask a) t s = (refusal BAD, t, s)
work_of (on_slot slot w) t s = let o = slot_rule slot w t s in (o.answer, o.tables, o.session)

plain≢on : {k : Kind} {s : ℕ} → plain ≡ on k s → ⊥
plain≢on p = let z : ◌≡◌ {A = ℕ} 0 1 = cc in omega arith

on_slot_lem : {k k' : Kind} {s s' : ℕ} → on k' s' ≡ on k s → s' ≡ s
on_slot_lem e = cc

on_kind : {k k' : Kind} {s s' : ℕ} → on k' s' ≡ on k s → k' ≡ k
on_kind e = cc

-- the step runs the two rules and touches nothing else
module _ (Holds : Desk → Type 0) (stays : Stays Holds) where
  passes : (d : Desk) → InOrder Holds d → sound d ≡ true
  passes d i = stays.passes d i.holds

  four : (d : Desk) → InOrder Holds d → length d.sessions ≡ slot_rows
  four d i = stays.slots d i.holds

  local : (rate : ℕ) → Local role step_of tables_of slot_of fresh_session (fresh_desk rate) (InOrder Holds) Parts Tidy ask_of work_of
  local rate = record {
    fresh_sound = fresh_in_order Holds stays rate;
    fresh_idle = fresh_slot;
    stays_sound = call_in_order Holds stays;
    fit = λ d i. tables_sound d (passes d i);
    tidy = λ d i s. i.tidy s;
    plain_answer = elim [ ask a ↦ λ d r i. rw (ask_step a d (passes d i)) | on_slot slot w ↦ λ d r i. absurd (plain≢on (sym r)) ];
    plain_base = elim [ ask a ↦ λ d r i. rw (ask_step a d (passes d i)) | on_slot slot w ↦ λ d r i. absurd (plain≢on (sym r)) ];
    plain_cells = elim [ ask a ↦ λ d r i t. rw (ask_step a d (passes d i)) | on_slot slot w ↦ λ d r i t. absurd (plain≢on (sym r)) ];
    slot_answer = λ k s. elim [ ask a ↦ λ d r i. absurd (plain≢on r) | on_slot slot w ↦ λ d r i. rw (← on_slot_lem r) (slot_answer slot w d (passes d i) (four d i)) ];
    slot_base = λ k s. elim [ ask a ↦ λ d r i. absurd (plain≢on r) | on_slot slot w ↦ λ d r i. rw (← on_slot_lem r) (slot_tables slot w d (passes d i) (four d i)) ];
    slot_cell = λ k s. elim [ ask a ↦ λ d r i. absurd (plain≢on r) | on_slot slot w ↦ λ d r i. rw (← on_slot_lem r) (slot_session slot w d (passes d i) (four d i)) ];
    slot_others = λ k s. elim [
      | ask a ↦ λ d r i t n. absurd (plain≢on r)
      | on_slot slot w ↦ λ d r i t n. slot_others slot w d (passes d i) (four d i) t (λ e. n (e ∙ on_slot_lem r))
    ];
  }

-- The rules on the tables and one slot.
abbrev Pass : Kind → ℕ → Call → Tables → Session → Type 0
Pass = Passes role is_accepted Parts Tidy work_of

-- an accepted call on a slot passed the test of the slot
slot_passed : (slot : ℕ) (w : Work) (t : Tables) (s : Session) → is_accepted (slot_rule slot w t s).answer ≡ true
    → (leb slot_rows slot ≡ false) × (is_accepted (work_rule w t s).answer ≡ true)
slot_passed slot w t s a = passed t s (leb slot_rows slot) BAD (work_rule w t s) refl a

refused : (k : Kind) (s : ℕ) (c : Call) (t : Tables) (x : Session) → role c ≡ on k s → is_accepted (work_of c t x).0 ≡ false
    → ((work_of c t x).1 ≡ t) × ((work_of c t x).2 ≡ x)
refused k s (ask a) t x r f = absurd (plain≢on r)
refused k s (on_slot slot w) t x r f =
    let e = (slot_does slot w t x).refused f in
    (ap (λ (o : SlotOutcome). o.tables) e, ap (λ (o : SlotOutcome). o.session) e)

commit_later : (s : ℕ) (c : Call) (t : Tables) (x : Session) → Pass Kind.commits s c t x → Later t (work_of c t x).1
commit_later s (ask a) t x p = absurd (plain≢on p.is)
commit_later s (on_slot slot w) t x p = (slot_does slot w t x).later

silent : (k : Kind) (s : ℕ) (c : Call) (t : Tables) (x : Session) → Silent k → Pass k s c t x → (work_of c t x).1 ≡ t
silent k s (ask a) t x i p = absurd (plain≢on p.is)
silent k s (on_slot slot w) t x i p = (slot_does slot w t x).silent (subst Silent (sym (on_kind p.is)) i)

ends : (k : Kind) (s : ℕ) (c : Call) (t : Tables) (x : Session) → Ends k → Pass k s c t x → (work_of c t x).2 ≡ fresh_session
ends k s (ask a) t x i p = absurd (plain≢on p.is)
ends k s (on_slot slot w) t x i p = (slot_does slot w t x).ends (subst Ends (sym (on_kind p.is)) i) p.ok

opens_idle : (s : ℕ) (c : Call) (t : Tables) (x : Session) → Pass Kind.opens s c t x → x ≡ fresh_session
unfolding work_rule
opens_idle s (ask a) t x p = absurd (plain≢on p.is)
opens_idle s (on_slot slot (opens n)) t x p = p.neat (open_found_lem n t x (slot_passed slot (opens n) t x p.ok).1).idle
opens_idle s (on_slot slot (stages path size h)) t x p = absurd (let z : ◌≡◌ {A = ℕ} 0 1 = cc (on_kind p.is) in omega arith)
opens_idle s (on_slot slot commits) t x p = absurd (let z : ◌≡◌ {A = ℕ} 0 1 = cc (on_kind p.is) in omega arith)
opens_idle s (on_slot slot abandons) t x p = absurd (let z : ◌≡◌ {A = ℕ} 0 1 = cc (on_kind p.is) in omega arith)

-- of the kind of a call that is given
prepares : {k : Kind} {s : ℕ} (slot : ℕ) (w : Work) → role (on_slot slot w) ≡ on k s → Prepares k → Prepares (kind_of w)
prepares slot w r i = subst Prepares (sym (on_kind r)) i

ready_before : (k : Kind) (s : ℕ) (c : Call) (t : Tables) (x : Session) → Prepares k → Pass k s c t x → (t' : Tables) → Ready t' (work_of c t x).2 → Ready t' x
unfolding work_rule
ready_before k s (ask a) t x i p t' re = absurd (plain≢on p.is)
ready_before k s (on_slot slot (opens n)) t x i p t' re = open_before n t x (slot_passed slot (opens n) t x p.ok).1 t'
ready_before k s (on_slot slot (stages path size h)) t x i p t' re =
    let q = slot_passed slot (stages path size h) t x p.ok in
    stage_before path size h t x q.1 t' (rw q.0 at re)
ready_before k s (on_slot slot commits) t x i p t' re = absurd (prepares slot commits p.is i)
ready_before k s (on_slot slot abandons) t x i p t' re = absurd (prepares slot abandons p.is i)

again : (k : Kind) (s : ℕ) (c : Call) (t : Tables) (x : Session) → Prepares k → Pass k s c t x
    → (t' : Tables) → Parts t' → Later t t' → Ready t' (work_of c t x).2
    → ((work_of c t' x).0 ≡ (work_of c t x).0) × ((work_of c t' x).2 ≡ (work_of c t x).2)
unfolding work_rule
again k s (ask a) t x i p t' f l re = absurd (plain≢on p.is)
again k s (on_slot slot (opens n)) t x i p t' f l re =
    let q = slot_passed slot (opens n) t x p.ok in
    rw q.0 (open_again t t' x p.fits l n q.1 (rw q.0 at re))
again k s (on_slot slot (stages path size h)) t x i p t' f l re =
    let q = slot_passed slot (stages path size h) t x p.ok in
    rw q.0 (stage_again t t' x p.fits l path size h q.1 (rw q.0 at re))
again k s (on_slot slot commits) t x i p t' f l re = absurd (prepares slot commits p.is i)
again k s (on_slot slot abandons) t x i p t' f l re = absurd (prepares slot abandons p.is i)

commits_ready : (s : ℕ) (c : Call) (t : Tables) (x : Session) → Pass Kind.commits s c t x → Ready t x
unfolding work_rule
commits_ready s (ask a) t x p = absurd (plain≢on p.is)
commits_ready s (on_slot slot commits) t x p = commit_ready t x (slot_passed slot commits t x p.ok).1
commits_ready s (on_slot slot (opens n)) t x p = absurd (let z : ◌≡◌ {A = ℕ} 0 1 = cc (on_kind p.is) in omega arith)
commits_ready s (on_slot slot (stages path size h)) t x p = absurd (let z : ◌≡◌ {A = ℕ} 0 1 = cc (on_kind p.is) in omega arith)
commits_ready s (on_slot slot abandons) t x p = absurd (let z : ◌≡◌ {A = ℕ} 0 1 = cc (on_kind p.is) in omega arith)

ruled : Rules role is_accepted fresh_session Parts Tidy Later Ready ask_of work_of
ruled = record {
  later_refl = later_refl;
  later_trans = later_trans;
  plain_later = elim [ ask a ↦ λ t r f. ask_later a t | on_slot slot w ↦ λ t r f. absurd (plain≢on (sym r)) ];
  commit_later = commit_later;
  refused = refused;
  silent = silent;
  ends = ends;
  opens_idle = opens_idle;
  ready_before = ready_before;
  again = again;
  commits_ready = commits_ready;
}

-- Demand 3, from an invariant under which the test of the desk passes.
pub demand3_from : (Holds : Desk → Type 0) → Stays Holds → Demand3
demand3_from Holds stays rate =
    serial role is_accepted step_of tables_of slot_of fresh_session (fresh_desk rate) (InOrder Holds) Later Ready
    (laws role is_accepted step_of tables_of slot_of fresh_session (fresh_desk rate) (InOrder Holds) Parts Tidy Later Ready ask_of work_of (local Holds stays rate) ruled)
