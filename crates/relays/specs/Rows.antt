-- Register and heartbeat over the parts of the tables that they read: the answer, and the one row that is changed, if there is one. `RowLaws` says
-- that it is what their rules give. Assumes nothing.
use Rattle.std.specs.Prelude.{true, false, cond, List, ℕ, ◌+◌, eqb, leb, ltb, set}
use Rattle.lists.specs.Lists.{Hit, hit, miss, find}
use Rattle.rules.specs.declared.RelayNo.{RelayNo}
use Rattle.rules.specs.declared.Relay.{Relay}
use Rattle.rules.specs.declared.Tables.{Tables}
use Rattle.rules.specs.declared.TablesOutcome.{TablesOutcome}
use Rattle.rules.specs.Limits.{capacity_limit, last_number}
use Rattle.rules.specs.Numbers.{BAD, SPENT, ROOM, NO_RELAY}
use Rattle.rules.specs.Fresh.{fresh_relay}
use Rattle.rules.specs.Tables.{is_relay, free_relay, with_relays, with_last_relay, with_beat}
use Rattle.rules.specs.Relays.{health}
use Rattle.rules.specs.Outcome.{refusal, success}
use Rattle.rules.specs.RelayCalls.{new_relay}
use Rattle.relays.specs.declared.RelayChange.{RelayChange}

-- the tables with the row that is changed, where one is, and the last number given
abbrev pub on_row : Tables → RelayChange → TablesOutcome
on_row t o = record { answer = o.answer; tables = cond o.changed (with_last_relay (with_relays t (set t.relays o.at o.row)) o.last) t }

-- a refusal changes no row
abbrev pub kept_row : ℕ → RelayChange
kept_row n = record { answer = refusal n; changed = false; at = 0; row = fresh_relay; last = 0 }

-- 12, then the new relay in the free row
unfoldable pub register_at : ℕ → ℕ → ℕ → Hit Relay → RelayChange
register_at clock last capacity miss = kept_row ROOM
register_at clock last capacity (hit i old) =
    record { answer = success (last + 1); changed = true; at = i; row = new_relay (last + 1) capacity clock; last = last + 1 }

-- "0F register | capacity | 1 21 12 | number"
unfoldable pub register_row : ℕ → List Relay → ℕ → ℕ → RelayChange
register_row clock rows last capacity =
    cond (ltb capacity_limit capacity) (kept_row BAD)
    (cond (leb last_number last) (kept_row SPENT) (register_at clock last capacity (find free_relay rows)))

-- 26: "unknown, or health 0"; else the relay's last heartbeat is now
unfoldable pub heartbeat_to : ℕ → ℕ → Hit Relay → RelayChange
heartbeat_to clock last miss = kept_row NO_RELAY
heartbeat_to clock last (hit i x) =
    cond (eqb (health clock x) 0) (kept_row NO_RELAY) (record { answer = success 0; changed = true; at = i; row = with_beat x clock; last = last })

-- "10 heartbeat | relay | 26 | 0"
unfoldable pub heartbeat_row : ℕ → List Relay → ℕ → RelayNo → RelayChange
heartbeat_row clock rows last n = heartbeat_to clock last (find (is_relay n) rows)
