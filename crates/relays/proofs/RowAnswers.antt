-- What each rule on a relay answers: `X-none` where the search found no row, `X-at` at the row that it found. Assumes nothing.
use mathlib.Core.Path.{◌≡◌, ◌∙◌}
use mathlib.Core.Bool.{true, false, not}
use mathlib.Core.List.{List}
use Prim.Native.Nat.{ℕ, ◌<◌}
use borrow.Author.Tests.{not-true, not-false}
use lib.ListN.{length, get_or, set}
use Rattle.lists.specs.AnswerLaws.{NoRow, AtRow, no_row, at_row}
use Rattle.rules.specs.declared.RelayNo.{RelayNo}
use Rattle.rules.specs.declared.Relay.{Relay}
use Rattle.rules.specs.declared.Tables.{Tables}
use Rattle.rules.specs.declared.TablesOutcome.{TablesOutcome}
use Rattle.rules.specs.Tables.{is_relay, free_relay, with_relays, with_last_relay, with_beat}
use Rattle.rules.specs.RelayCalls.{register_rule, heartbeat_at, heartbeat_in}
use Rattle.rules.specs.declared.Answer.{Answer}
use Rattle.rules.specs.Outcome.{accepted, success}
use Rattle.rows.specs.Blank.{blank_relay}
use Rattle.relays.specs.declared.RelayChange.{RelayChange}
use Rattle.relays.specs.declared.RelaysOutcome.{RelaysOutcome}
use Rattle.relays.specs.Parts.{on_relays}
use Rattle.relays.specs.Rows.{on_row, register_at, register_row, heartbeat_to}
use Rattle.relays.specs.RowLaws.{register_by_row, register_below}

module _ (t : Tables) where
  pub heartbeat_none : (n : RelayNo) → NoRow (heartbeat_in t) (is_relay n) t.relays
  heartbeat_none n = no_row (heartbeat_in t) _ _

  pub heartbeat_at_lem : (n : RelayNo) → AtRow (heartbeat_in t) (is_relay n) t.relays blank_relay
  heartbeat_at_lem n = at_row (heartbeat_in t) _ _ _

  -- success with the table that `lent_relays::beat_at` gave
  pub beaten : (x : TablesOutcome) (v i n : ℕ) (rows : List Relay) → x ≡ accepted v (with_last_relay (with_relays t rows) n) → rows ≡ set t.relays i (with_beat (get_or t.relays i blank_relay) t.clock)
      → n ≡ t.last_relay → x ≡ accepted v (heartbeat_at t i (get_or t.relays i blank_relay))
  beaten x v i n rows e f g = e ∙ rw (f, g)

-- the same over the parts
module _ (rows : List Relay) (clock last : ℕ) where
  pub new_none : (capacity : ℕ) → NoRow (register_at clock last capacity) free_relay rows
  new_none capacity = no_row (register_at clock last capacity) _ _

  pub new_at : (capacity : ℕ) → AtRow (register_at clock last capacity) free_relay rows blank_relay
  new_at capacity = at_row (register_at clock last capacity) _ _ _

  pub beat_none : (n : RelayNo) → NoRow (heartbeat_to clock last) (is_relay n) rows
  beat_none n = no_row (heartbeat_to clock last) _ _

  pub beat_at : (n : RelayNo) → AtRow (heartbeat_to clock last) (is_relay n) rows blank_relay
  beat_at n = at_row (heartbeat_to clock last) _ _ _

-- a changed row, with the answer that was made for it
pub row_given : (a : Answer) (v i last : ℕ) (x : Relay) → a ≡ success v
    → ◌≡◌ {A = RelayChange} (record { answer = a; changed = true; at = i; row = x; last = last }) (record { answer = success v; changed = true; at = i; row = x; last = last })
row_given a v i last x e = rw e

-- the table that a change makes
module _ (t : Tables) (o : RelayChange) where
  pub change_none : not o.changed ≡ true → on_relays t (record { answer = o.answer; relays = t.relays; last = t.last_relay }) ≡ on_row t o
  change_none q = rw (not-true o.changed q)

  pub change_row : not o.changed ≡ false → on_relays t (record { answer = o.answer; relays = set t.relays o.at o.row; last = o.last }) ≡ on_row t o
  change_row q = rw (not-false o.changed q)

  -- of register
  pub register_changes : (capacity : ℕ) (r : RelaysOutcome) → o ≡ register_row t.clock t.relays t.last_relay capacity → on_relays t r ≡ on_row t o
      → on_relays t r ≡ register_rule capacity t
  register_changes capacity r e f = f ∙ rw e (register_by_row t capacity)

  pub register_place : (capacity : ℕ) → o ≡ register_row t.clock t.relays t.last_relay capacity → length t.relays ≡ 32 → o.at < 32
  register_place capacity e few = rw e (register_below t.clock t.relays t.last_relay capacity few)
