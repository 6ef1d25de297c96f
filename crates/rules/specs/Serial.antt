-- Document 01, "The list of demand 3": the claim for our desk. What the second list is, and what is claimed of it, stands in the crate serial,
-- for any desk: `Second.antt`. Here stand the four things that it is told of ours: which calls are the four on a session slot, which answers
-- are accepted, what a call answers and leaves, and what of two desks is compared. Assumes nothing.
use Rattle.std.specs.Prelude.{ℕ}
use Rattle.serial.specs.Second.{Kind, Role, plain, on, Serial}
use Rattle.rules.specs.declared.Answer.{Answer}
use Rattle.rules.specs.declared.Tables.{Tables}
use Rattle.rules.specs.declared.Desk.{Desk}
use Rattle.rules.specs.Fresh.{fresh_desk}
use Rattle.rules.specs.Outcome.{is_accepted}
use Rattle.rules.specs.Calls.{Work, opens, stages, commits, abandons, Call, ask, on_slot, step}

-- the four calls on a session slot: 09 open, 0A stage, 0B commit, 0C abandon
abbrev pub kind_of : Work → Kind
kind_of (opens k) = Kind.opens
kind_of (stages path size h) = Kind.stages
kind_of commits = Kind.commits
kind_of abandons = Kind.abandons

-- "calls other than 09 to 0C" keep their places; the four are on the slot that they name. A call on a slot above 3 is one of them too: it is always
-- refused (`above-refused`), and so left out
abbrev pub role : Call → Role
role (ask a) = plain
role (on_slot slot w) = on (kind_of w) slot

-- "Same answer: number, value and all handed back": the whole answer, with the hash; beside it the desk that the call leaves
abbrev pub step_of : Call → Desk → Answer × Desk
step_of c d = ((step c d).answer, (step c d).desk)

-- "Same desk: all but session slots, row by row, with the last numbers given and the sum of deposits."
abbrev pub tables_of : Desk → Tables
tables_of d = d.tables

-- Demand 3: "its rate is any, the same for both lists"
abbrev pub Demand3 : Type 0
Demand3 = (rate : ℕ) → Serial role is_accepted step_of tables_of (fresh_desk rate)
