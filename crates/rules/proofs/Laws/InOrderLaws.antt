-- Laws of InOrder: a fresh desk is in order, and every call keeps a desk in order; what the step of such a desk does to its tables and its slots.
-- Assumes nothing.
use Rattle.std.specs.Prelude.{◌≡◌, refl, ◌≢◌, Bool, true, false, cond, ℕ, zero, suc, ◌≤◌, leb, length, get_or, replicate}
use Rattle.std.proofs.Common.{◌∙◌, ap, le-leb, leb-false, get_or-set_same, get_or-set_other}
use Rattle.std.proofs.Math.Decide.{ℕ_discrete}
use Rattle.rules.specs.declared.Desk.{Desk}
use Rattle.rules.specs.declared.Outcome.{Outcome}
use Rattle.rules.specs.declared.SlotOutcome.{SlotOutcome}
use Rattle.rules.specs.Limits.{slot_rows}
use Rattle.rules.specs.Numbers.{BAD}
use Rattle.rules.specs.Fresh.{fresh_session, fresh_desk}
use Rattle.rules.specs.Outcome.{slot_refused, desk_refused}
use Rattle.rules.specs.Sound.{sound}
use Rattle.rules.specs.Calls.{Ask, ask_rule, Work, work_rule, Call, ask, on_slot, with_slot, rule, step}
use Rattle.rules.proofs.Laws.Later.{Tidy}
use Rattle.rules.proofs.Laws.SlotLaws.{slot_rule, slot_does}
use Rattle.rules.proofs.Laws.InOrder.{Stays, slot_of, InOrder}

fresh_row : {A : Type 0} (n i : ℕ) (x : A) → get_or (replicate n x) i x ≡ x
fresh_row zero i x = refl
fresh_row (suc n) zero x = refl
fresh_row (suc n) (suc i) x = fresh_row n i x

pub fresh_slot : (s : ℕ) → slot_of (fresh_desk 0) s ≡ fresh_session
fresh_slot s = fresh_row slot_rows s fresh_session

-- a call on the tables leaves the slots
pub ask_step : (a : Ask) (d : Desk) → sound d ≡ true
    → step (ask a) d ≡ record { answer = (ask_rule a d.tables).answer; desk = record { tables = (ask_rule a d.tables).tables; sessions = d.sessions } }
unfolding step rule
ask_step a d e = rw e

-- a call on a slot leaves the other slots
module _ (slot : ℕ) (w : Work) (d : Desk) (passes : sound d ≡ true) (slots : length d.sessions ≡ slot_rows) where
  abbrev done : SlotOutcome
  done = work_rule w d.tables (slot_of d slot)

  abbrev after : Bool → Outcome
  after b = cond b (desk_refused d BAD) (with_slot d slot done)

  slot_step : step (on_slot slot w) d ≡ after (leb slot_rows slot)
  unfolding step rule
  slot_step = rw passes

  pub slot_answer : (step (on_slot slot w) d).answer ≡ (slot_rule slot w d.tables (slot_of d slot)).answer
  slot_answer = ap (λ o. o.answer) slot_step ∙ go (leb slot_rows slot)
    where
      go : (b : Bool) → (after b).answer ≡ (cond b (slot_refused d.tables (slot_of d slot) BAD) done).answer
      go true = refl
      go false = refl

  pub slot_tables : (step (on_slot slot w) d).desk.tables ≡ (slot_rule slot w d.tables (slot_of d slot)).tables
  slot_tables = ap (λ o. o.desk.tables) slot_step ∙ go (leb slot_rows slot)
    where
      go : (b : Bool) → (after b).desk.tables ≡ (cond b (slot_refused d.tables (slot_of d slot) BAD) done).tables
      go true = refl
      go false = refl

  pub slot_session : slot_of (step (on_slot slot w) d).desk slot ≡ (slot_rule slot w d.tables (slot_of d slot)).session
  slot_session = ap (λ o. slot_of o.desk slot) slot_step ∙ go (leb slot_rows slot) refl
    where
      go : (b : Bool) → leb slot_rows slot ≡ b → slot_of (after b).desk slot ≡ (cond b (slot_refused d.tables (slot_of d slot) BAD) done).session
      go true e = refl
      go false e = get_or-set_same d.sessions slot done.session fresh_session (rw slots (leb-false slot_rows slot e))

  pub slot_others : (s : ℕ) → s ≢ slot → slot_of (step (on_slot slot w) d).desk s ≡ slot_of d s
  slot_others s n = ap (λ o. slot_of o.desk s) slot_step ∙ go (leb slot_rows slot)
    where
      go : (b : Bool) → slot_of (after b).desk s ≡ slot_of d s
      go true = refl
      go false = get_or-set_other d.sessions slot s done.session fresh_session n

  pub slot_tidy : ((s : ℕ) → Tidy (slot_of d s)) → (s : ℕ) → Tidy (slot_of (step (on_slot slot w) d).desk s)
  slot_tidy tidy s = go (ℕ_discrete s slot)
    where
      go : Dec (s ≡ slot) → Tidy (slot_of (step (on_slot slot w) d).desk s)
      go (yes e) = rw (e, slot_session) ((slot_does slot w d.tables (slot_of d slot)).tidy (tidy slot))
      go (no n) = rw (slot_others s n) (tidy s)

-- A fresh desk is in order, and every call keeps a desk in order.
module _ (Holds : Desk → Type 0) (stays : Stays Holds) where
  pub fresh_in_order : (rate : ℕ) → InOrder Holds (fresh_desk rate)
  fresh_in_order rate = record { holds = stays.fresh rate; tidy = λ s b. fresh_slot s }

  pub call_in_order : (c : Call) (d : Desk) → InOrder Holds d → InOrder Holds (step c d).desk
  call_in_order (ask a) d i = record {
    holds = stays.kept (ask a) d i.holds;
    tidy = λ s. rw (ask_step a d (stays.passes d i.holds)) (i.tidy s);
  }
  call_in_order (on_slot slot w) d i = record {
    holds = stays.kept (on_slot slot w) d i.holds;
    tidy = slot_tidy slot w d (stays.passes d i.holds) (stays.slots d i.holds) i.tidy;
  }

-- A call on a slot above 3 is refused, whatever the desk.
pub above_refused : (slot : ℕ) (w : Work) (d : Desk) → slot_rows ≤ slot → step (on_slot slot w) d ≡ desk_refused d BAD
unfolding step rule
above_refused slot w d h = rw (le-leb slot_rows slot h) (go (sound d))
  where
    go : (b : Bool) → cond b (desk_refused d BAD) (desk_refused d BAD) ≡ desk_refused d BAD
    go true = refl
    go false = refl
