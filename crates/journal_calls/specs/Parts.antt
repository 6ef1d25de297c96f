-- What the work of a record gives, by the rule of its call. Assumes nothing.
use Rattle.std.specs.Prelude.{◌≡◌, List, ℕ, ◌<◌}
use Rattle.rules.specs.declared.Relay.{Relay}
use Rattle.rules.specs.declared.Tables.{Tables}
use Rattle.rules.specs.declared.TablesOutcome.{TablesOutcome}
use Rattle.rules.specs.Calls.{Ask, ask_rule}
use Rattle.relays.specs.declared.RelayChange.{RelayChange}
use Rattle.relays.specs.Rows.{on_row, register_row, heartbeat_row}
use Rattle.journal.specs.declared.Record.{Record}
use Rattle.journal_calls.specs.declared.RelayCall.{RelayCall}
use Rattle.journal_calls.specs.declared.RelayCall.TheVariants as relay
use Rattle.journal_calls.specs.Groups.{relay_ask}

-- x is what the rule of a call on the tables t gives
pub record Asked (x : TablesOutcome) (q : Ask) (t : Tables) : Type 0 where
  pub same : x ≡ ask_rule q t

-- ---- the work of a record over the parts of the tables that its call reads

-- a call on the relays, by the clock, the relays and the last number given: the answer, and the row that changes
abbrev pub relay_row : ℕ → List Relay → ℕ → RelayCall → Record → RelayChange
relay_row clock rows last relay.Register r = register_row clock rows last r.amount
relay_row clock rows last relay.Heartbeat r = heartbeat_row clock rows last (record { 0 = r.no })

-- o is what it gives, as the rule of the call has it on all tables with these parts
pub record RelayDone (clock : ℕ) (rows : List Relay) (last : ℕ) (w : RelayCall) (r : Record) (o : RelayChange) : Type 0 where
  pub same : o ≡ relay_row clock rows last w r
  pub told : (t : Tables) → t.clock ≡ clock → t.relays ≡ rows → t.last_relay ≡ last → on_row t o ≡ ask_rule (relay_ask w r) t
  pub below : o.at < 32
