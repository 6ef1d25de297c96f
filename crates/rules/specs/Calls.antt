-- Document 01, "The calls": the calls of kinds 01 to 10 with their fields, what each answers and leaves, and lists of them. Assumes nothing.
use Rattle.std.specs.Prelude.{cond, List, [], ◌∷◌, ℕ, leb, get_or, set}
use Rattle.amount.specs.declared.Cap.{Cap}
use Rattle.rules.specs.declared.VolumeNo.{VolumeNo}
use Rattle.rules.specs.declared.TokenNo.{TokenNo}
use Rattle.rules.specs.declared.RelayNo.{RelayNo}
use Rattle.rules.specs.declared.Account.{Account}
use Rattle.rules.specs.declared.Hash.{Hash}
use Rattle.rules.specs.declared.Answer.{Answer}
use Rattle.rules.specs.declared.Session.{Session}
use Rattle.rules.specs.declared.Tables.{Tables}
use Rattle.rules.specs.declared.Desk.{Desk}
use Rattle.rules.specs.declared.Outcome.{Outcome}
use Rattle.rules.specs.declared.TablesOutcome.{TablesOutcome}
use Rattle.rules.specs.declared.SlotOutcome.{SlotOutcome}
use Rattle.rules.specs.Limits.{slot_rows}
use Rattle.rules.specs.Numbers.{BAD}
use Rattle.rules.specs.Fresh.{fresh_session}
use Rattle.rules.specs.Scope.{ScopeArg}
use Rattle.rules.specs.Outcome.{desk_refused, on_tables}
use Rattle.rules.specs.Sound.{sound}
use Rattle.rules.specs.Advance.{advance_rule}
use Rattle.rules.specs.VolumeCalls.{create_rule, deposit_rule, delete_rule, undelete_rule, remove_rule}
use Rattle.rules.specs.TokenCalls.{grant_rule, attenuate_rule, revoke_rule, look_rule}
use Rattle.rules.specs.SessionCalls.{open_rule, stage_rule, abandon_rule}
use Rattle.rules.specs.Commit.{commit_rule}
use Rattle.rules.specs.RelayCalls.{register_rule, heartbeat_rule}

-- the calls that work on the tables alone, with the fields of the table's second column
pub data Ask : Type 0 where
  advance : ℕ → Ask
  create : Account → List ℕ → ℕ → ℕ → Cap → Ask
  deposit : VolumeNo → ℕ → Ask
  delete : Account → VolumeNo → Ask
  undelete : Account → VolumeNo → Ask
  grant : Account → VolumeNo → ScopeArg → Ask
  attenuate : TokenNo → ScopeArg → Ask
  revoke : Account → TokenNo → Ask
  remove : Account → VolumeNo → List ℕ → Ask
  look : TokenNo → List ℕ → Ask
  register : ℕ → Ask
  heartbeat : RelayNo → Ask

-- what each of them does
unfoldable pub ask_rule : Ask → Tables → TablesOutcome
ask_rule (advance block) = advance_rule block
ask_rule (create a name k m cap) = create_rule a name k m cap
ask_rule (deposit v coins) = deposit_rule v coins
ask_rule (delete a v) = delete_rule a v
ask_rule (undelete a v) = undelete_rule a v
ask_rule (grant a v s) = grant_rule a v s
ask_rule (attenuate k s) = attenuate_rule k s
ask_rule (revoke a k) = revoke_rule a k
ask_rule (remove a v path) = remove_rule a v path
ask_rule (look k path) = look_rule k path
ask_rule (register capacity) = register_rule capacity
ask_rule (heartbeat r) = heartbeat_rule r

-- the four calls on a session slot, with the fields after the slot
pub data Work : Type 0 where
  opens : TokenNo → Work
  stages : List ℕ → ℕ → Hash → Work
  commits : Work
  abandons : Work

unfoldable pub work_rule : Work → Tables → Session → SlotOutcome
work_rule (opens k) = open_rule k
work_rule (stages path size h) = stage_rule path size h
work_rule commits = commit_rule
work_rule abandons = abandon_rule

-- a call: one on the tables, or one of the four on a slot
pub data Call : Type 0 where
  ask : Ask → Call
  on_slot : ℕ → Work → Call

-- the desk with what a call on a slot left
abbrev pub with_slot : Desk → ℕ → SlotOutcome → Outcome
with_slot d slot o =
    record { answer = o.answer; desk = record { tables = o.tables; sessions = set d.sessions slot o.session } }

-- a call on a desk in order. 1: "slot > 3"
unfoldable pub rule : Call → Desk → Outcome
rule (ask a) d = on_tables d (ask_rule a d.tables)
rule (on_slot slot w) d =
    cond (leb slot_rows slot) (desk_refused d BAD)
    (with_slot d slot (work_rule w d.tables (get_or d.sessions slot fresh_session)))

-- a call on any desk: "Answered 1 before all else"
unfoldable pub step : Call → Desk → Outcome
step c d = cond (sound d) (rule c d) (desk_refused d BAD)

-- a list of calls, one after another: their answers in order, and the desk that the last one leaves
unfoldable pub answers : List Call → Desk → List Answer
answers [] d = []
answers (c ∷ cs) d = (step c d).answer ∷ answers cs (step c d).desk

unfoldable pub run : List Call → Desk → Desk
run [] d = d
run (c ∷ cs) d = run cs (step c d).desk
