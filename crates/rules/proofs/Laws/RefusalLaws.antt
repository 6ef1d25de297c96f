-- A refusal is its number, value 0 and the desk as it was, of every call on every desk. Assumes nothing.
use Rattle.std.specs.Prelude.{◌≡◌, refl, Bool, true, false, cond, List, leb, get_or}
use Rattle.std.proofs.Common.{◌∙◌, ap}
use Rattle.std.proofs.lemmas.List.{set-get_or}
use Rattle.lists.specs.BoolLaws.{not_both}
use Rattle.rules.specs.declared.Session.{Session}
use Rattle.rules.specs.declared.Tables.{Tables}
use Rattle.rules.specs.declared.Desk.{Desk}
use Rattle.rules.specs.declared.TablesOutcome.{TablesOutcome}
use Rattle.rules.specs.declared.SlotOutcome.{SlotOutcome}
use Rattle.rules.specs.Limits.{slot_rows}
use Rattle.rules.specs.Fresh.{fresh_session}
use Rattle.rules.specs.Outcome.{refusal, is_accepted, refused, desk_refused, on_tables}
use Rattle.rules.specs.Numbers.{BAD}
use Rattle.rules.specs.Sound.{sound}
use Rattle.rules.specs.Calls.{Ask, work_rule, Call, ask, on_slot, with_slot, rule, step}
use Rattle.rules.proofs.Laws.AskCases.{Does, refuses, takes, ask_cases}
use Rattle.rules.proofs.Laws.SlotLaws.{work_does}

-- a call on the tables
does_kept : (t : Tables) {a : Ask} {o : TablesOutcome} → Does t a o → is_accepted o.answer ≡ false → o ≡ refused t o.answer.number
does_kept t (refuses n e) f = refl
does_kept t (takes x u y e) f = absurd (not_both y f)

-- past the test of the desk
rule_kept : (c : Call) (d : Desk) → is_accepted (rule c d).answer ≡ false → rule c d ≡ desk_refused d (rule c d).answer.number
unfolding rule
rule_kept (ask a) d = λ e. ap (on_tables d) (does_kept d.tables (ask_cases d.tables a) e)
rule_kept (on_slot slot w) d = go (leb slot_rows slot)
  where
    o : SlotOutcome
    o = work_rule w d.tables (get_or d.sessions slot fresh_session)

    go : (b : Bool) → is_accepted (cond b (desk_refused d BAD) (with_slot d slot o)).answer ≡ false
        → cond b (desk_refused d BAD) (with_slot d slot o) ≡ desk_refused d (cond b (desk_refused d BAD) (with_slot d slot o)).answer.number
    go true e = refl
    go false e =
        ap (with_slot d slot) ((work_does w d.tables (get_or d.sessions slot fresh_session)).refused e)
        ∙ ap (λ (ss : List Session). record { answer = refusal o.answer.number; desk = record { tables = d.tables; sessions = ss } })
        (set-get_or d.sessions slot fresh_session)

pub refused_kept : (c : Call) (d : Desk) → is_accepted (step c d).answer ≡ false → step c d ≡ desk_refused d (step c d).answer.number
unfolding step
refused_kept c d = go (sound d)
  where
    go : (b : Bool) → is_accepted (cond b (rule c d) (desk_refused d BAD)).answer ≡ false
        → cond b (rule c d) (desk_refused d BAD) ≡ desk_refused d (cond b (rule c d) (desk_refused d BAD)).answer.number
    go true e = rule_kept c d e
    go false e = refl
