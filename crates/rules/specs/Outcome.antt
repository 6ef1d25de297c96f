-- Document 01, "Refusal numbers": "Answer 0 is success with its value. A refusal gives its number, value 0, and the desk is as before, session
-- included." Assumes nothing.
use Rattle.std.specs.Prelude.{Bool, ℕ, eqb}
use Rattle.rules.specs.declared.Hash.{Hash}
use Rattle.rules.specs.declared.Answer.{Answer}
use Rattle.rules.specs.declared.Session.{Session}
use Rattle.rules.specs.declared.Tables.{Tables}
use Rattle.rules.specs.declared.Desk.{Desk}
use Rattle.rules.specs.declared.Outcome.{Outcome}
use Rattle.rules.specs.declared.TablesOutcome.{TablesOutcome}
use Rattle.rules.specs.declared.SlotOutcome.{SlotOutcome}
use Rattle.rules.specs.Fresh.{fresh_hash}

-- a refusal: its number and value 0
abbrev pub refusal : ℕ → Answer
refusal n = record { number = n; value = 0; hash = fresh_hash }

-- success: 0 and the value
abbrev pub success : ℕ → Answer
success v = record { number = 0; value = v; hash = fresh_hash }

-- "Look also hands back the hash."
abbrev pub success_with : ℕ → Hash → Answer
success_with v h = record { number = 0; value = v; hash = h }

-- "Accepted means answer 0."
abbrev pub is_accepted : Answer → Bool
is_accepted a = eqb a.number 0

-- of a call on the tables
abbrev pub refused : Tables → ℕ → TablesOutcome
refused t n = record { answer = refusal n; tables = t }

abbrev pub accepted : ℕ → Tables → TablesOutcome
accepted v t = record { answer = success v; tables = t }

-- of a call on the tables and one slot
abbrev pub slot_refused : Tables → Session → ℕ → SlotOutcome
slot_refused t s n = record { answer = refusal n; tables = t; session = s }

abbrev pub slot_accepted : ℕ → Tables → Session → SlotOutcome
slot_accepted v t s = record { answer = success v; tables = t; session = s }

-- of a call on the desk
abbrev pub desk_refused : Desk → ℕ → Outcome
desk_refused d n = record { answer = refusal n; desk = d }

-- "Past the test of the desk .., calls other than 09 to 0C never read or write the session slots."
abbrev pub on_tables : Desk → TablesOutcome → Outcome
on_tables d o = record { answer = o.answer; desk = record { tables = o.tables; sessions = d.sessions } }
