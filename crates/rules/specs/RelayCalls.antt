-- Document 01, "The calls": register and heartbeat. Each is its checks in the order of its row, then its effect. Assumes nothing.
use Rattle.std.specs.Prelude.{cond, ℕ, ◌+◌, eqb, leb, ltb, set}
use Rattle.lists.specs.Lists.{Hit, miss, hit, find}
use Rattle.rules.specs.declared.RelayNo.{RelayNo}
use Rattle.rules.specs.declared.Relay.{Relay}
use Rattle.rules.specs.declared.Tables.{Tables}
use Rattle.rules.specs.declared.TablesOutcome.{TablesOutcome}
use Rattle.rules.specs.Limits.{capacity_limit, last_number}
use Rattle.rules.specs.Numbers.{BAD, ROOM, SPENT, NO_RELAY}
use Rattle.rules.specs.Tables.{free_relay, relay_of, with_relays, with_last_relay, with_beat}
use Rattle.rules.specs.Relays.{health}
use Rattle.rules.specs.Outcome.{refused, accepted}

-- "registering counts as one": its last heartbeat is now
abbrev pub new_relay : ℕ → ℕ → ℕ → Relay
new_relay n capacity clock = record { no = record { 0 = n }; capacity = capacity; used = 0; held = 0; beat = clock }

-- the relay of the next number
abbrev pub next_relay : Tables → ℕ → Relay
next_relay t capacity = new_relay (t.last_relay + 1) capacity t.clock

-- the tables with a new relay in its row
abbrev pub registered : Tables → ℕ → Relay → Tables
registered t i r = with_last_relay (with_relays t (set t.relays i r)) r.no.0

-- 12, then the relay's row
unfoldable pub register_in : Tables → Relay → Hit Relay → TablesOutcome
register_in t r miss = refused t ROOM
register_in t r (hit i old) = accepted r.no.0 (registered t i r)

-- "0F register | capacity | 1 21 12 | number"
unfoldable pub register_rule : ℕ → Tables → TablesOutcome
register_rule capacity t =
    cond (ltb capacity_limit capacity) (refused t BAD)
    (cond (leb last_number t.last_relay) (refused t SPENT)
    (register_in t (next_relay t capacity) (find free_relay t.relays)))

-- the relay's last heartbeat is now
abbrev pub heartbeat_at : Tables → ℕ → Relay → Tables
heartbeat_at t i r = with_relays t (set t.relays i (with_beat r t.clock))

-- 26: "unknown, or health 0"
unfoldable pub heartbeat_in : Tables → Hit Relay → TablesOutcome
heartbeat_in t miss = refused t NO_RELAY
heartbeat_in t (hit i r) =
    cond (eqb (health t.clock r) 0) (refused t NO_RELAY)
    (accepted 0 (heartbeat_at t i r))

-- "10 heartbeat | relay | 26 | 0"
unfoldable pub heartbeat_rule : RelayNo → Tables → TablesOutcome
heartbeat_rule n t = heartbeat_in t (relay_of n t)
