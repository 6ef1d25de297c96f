-- Register and heartbeat over the parts of the tables are their rules, and the row that they change is in the table. Assumes nothing.
use Rattle.std.specs.Prelude.{◌≡◌, refl, Bool, true, false, cond, List, ℕ, ◌<◌, eqb, leb, ltb, length}
use Rattle.std.proofs.Common.{◌∙◌, arith}
use Rattle.lists.specs.Lists.{Hit, hit, miss, find}
use Rattle.rules.specs.declared.RelayNo.{RelayNo}
use Rattle.rules.specs.declared.Relay.{Relay}
use Rattle.rules.specs.declared.Tables.{Tables}
use Rattle.rules.specs.Limits.{capacity_limit, last_number}
use Rattle.rules.specs.Numbers.{BAD, SPENT, NO_RELAY}
use Rattle.rules.specs.Outcome.{success, refused, accepted}
use Rattle.rules.specs.Tables.{is_relay, free_relay, relay_of, with_beat}
use Rattle.rules.specs.Relays.{health}
use Rattle.rules.specs.RelayCalls.{next_relay, register_in, register_rule, heartbeat_at, heartbeat_in, heartbeat_rule}
use Rattle.lists.specs.SearchLaws.{row_below}
use Rattle.relays.specs.declared.RelayChange.{RelayChange}
use Rattle.relays.specs.Rows.{on_row, kept_row, register_at, register_row, heartbeat_to, heartbeat_row}

-- register
by_checks : (t : Tables) (a b : Bool) (o : RelayChange)
    → on_row t (cond a (kept_row BAD) (cond b (kept_row SPENT) o)) ≡ cond a (refused t BAD) (cond b (refused t SPENT) (on_row t o))
by_checks t true b o = refl
by_checks t false true o = refl
by_checks t false false o = refl

at_free : (t : Tables) (capacity : ℕ) (h : Hit Relay) → on_row t (register_at t.clock t.last_relay capacity h) ≡ register_in t (next_relay t capacity) h
unfolding register_at register_in
at_free t capacity miss = refl
at_free t capacity (hit i x) = refl

pub register_by_row : (t : Tables) (capacity : ℕ) → on_row t (register_row t.clock t.relays t.last_relay capacity) ≡ register_rule capacity t
unfolding register_row register_rule
register_by_row t capacity =
    by_checks t (ltb capacity_limit capacity) (leb last_number t.last_relay) (register_at t.clock t.last_relay capacity (find free_relay t.relays))
    ∙ rw (at_free t capacity (find free_relay t.relays))

below_checks : (a b : Bool) (o : RelayChange) → o.at < 32 → (cond a (kept_row BAD) (cond b (kept_row SPENT) o)).at < 32
below_checks true b o h = omega arith
below_checks false true o h = omega arith
below_checks false false o h = h

below_free : (clock last capacity : ℕ) (rows : List Relay) → length rows ≡ 32 → (h : Hit Relay) → find free_relay rows ≡ h
    → (register_at clock last capacity h).at < 32
unfolding register_at
below_free clock last capacity rows e miss f = omega arith
below_free clock last capacity rows e (hit i x) f = omega (arith, row_below free_relay rows 0 i x f)

pub register_below : (clock : ℕ) (rows : List Relay) (last capacity : ℕ) → length rows ≡ 32 → (register_row clock rows last capacity).at < 32
unfolding register_row
register_below clock rows last capacity e =
    below_checks (ltb capacity_limit capacity) (leb last_number last) (register_at clock last capacity (find free_relay rows))
    (below_free clock last capacity rows e (find free_relay rows) refl)

-- heartbeat
at_relay : (t : Tables) (h : Hit Relay) → on_row t (heartbeat_to t.clock t.last_relay h) ≡ heartbeat_in t h
unfolding heartbeat_to heartbeat_in
at_relay t miss = refl
at_relay t (hit i x) = by_health (eqb (health t.clock x) 0)
  where
    by_health : (b : Bool) → on_row t (cond b (kept_row NO_RELAY) (record { answer = success 0; changed = true; at = i; row = with_beat x t.clock; last = t.last_relay }))
        ≡ cond b (refused t NO_RELAY) (accepted 0 (heartbeat_at t i x))
    by_health true = refl
    by_health false = refl

pub heartbeat_by_row : (t : Tables) (n : RelayNo) → on_row t (heartbeat_row t.clock t.relays t.last_relay n) ≡ heartbeat_rule n t
unfolding heartbeat_row heartbeat_rule relay_of
heartbeat_by_row t n = at_relay t (find (is_relay n) t.relays)

below_relay : (clock last : ℕ) (n : RelayNo) (rows : List Relay) → length rows ≡ 32 → (h : Hit Relay) → find (is_relay n) rows ≡ h
    → (heartbeat_to clock last h).at < 32
unfolding heartbeat_to
below_relay clock last n rows e miss f = omega arith
below_relay clock last n rows e (hit i x) f = by_health (eqb (health clock x) 0)
  where
    by_health : (b : Bool) → (cond b (kept_row NO_RELAY) (record { answer = success 0; changed = true; at = i; row = with_beat x clock; last = last })).at < 32
    by_health true = omega arith
    by_health false = omega (arith, row_below (is_relay n) rows 0 i x f)

pub heartbeat_below : (clock : ℕ) (rows : List Relay) (last : ℕ) (n : RelayNo) → length rows ≡ 32 → (heartbeat_row clock rows last n).at < 32
unfolding heartbeat_row
heartbeat_below clock rows last n e = below_relay clock last n rows e (find (is_relay n) rows) refl
