-- Heartbeat on a lent table is the desk's: on the relays of a sound desk, at its clock, it answers what the rule answers and leaves the relays that
-- the rule leaves. Assumes nothing.
use Rattle.std.specs.Prelude.{◌≡◌, refl, List, Bool, true, false, cond, ℕ, eqb, length, Result, Ok, Err}
use Rattle.std.proofs.Common.{sym, ap, ◌∙◌}
use Rattle.lists.specs.Lists.{Hit, miss, hit, find}
use Rattle.lists.specs.ModifyLaws.{row_set}
use Rattle.lists.specs.SearchLaws.{found_at}
use Rattle.rules.specs.declared.RelayNo.{RelayNo}
use Rattle.rules.specs.declared.Relay.{Relay}
use Rattle.rules.specs.declared.Tables.{Tables}
use Rattle.rules.specs.Limits.{relay_rows}
use Rattle.rules.specs.Numbers.{NO_RELAY, answer_number}
use Rattle.rules.specs.Outcome.{refused, accepted}
use Rattle.rules.specs.RelayCalls.{heartbeat_at, heartbeat_in, heartbeat_rule}
use Rattle.rules.specs.Relays.{health}
use Rattle.rules.specs.Sound.{sound_tables}
use Rattle.rules.specs.Tables.{relay_of, is_relay, with_beat}
use Rattle.rules.specs.declared.refusals.Refusal.{Refusal}
use Rattle.rules.specs.declared.refusals.Refusal.TheVariants.{NoRelay}
use Rattle.lent_relays.specs.Lent.{table_fits, beat_in, beat_answer, rows_after, beat_number, beat_rows}
use Rattle.lent_relays.specs.FitLaws.{sound_fits}

heartbeat_at_lem : (n : RelayNo) (t : Tables) (h : Hit Relay) → find (is_relay n) t.relays ≡ h
    → ((heartbeat_in t h).answer.number ≡ answer_number (beat_in t.clock h)) × ((heartbeat_in t h).tables.relays ≡ rows_after (λ x. with_beat x t.clock) (beat_in t.clock h) t.relays)
unfolding heartbeat_in beat_in rows_after
heartbeat_at_lem n t miss e = (refl, refl)
heartbeat_at_lem n t (hit i r) e = by_health (eqb (health t.clock r) 0)
  where
    by_health : (b : Bool)
        → ((cond b (refused t NO_RELAY) (accepted 0 (heartbeat_at t i r))).answer.number ≡ answer_number {A = ℕ} (cond b (Err NoRelay) (Ok i)))
        × ((cond b (refused t NO_RELAY) (accepted 0 (heartbeat_at t i r))).tables.relays ≡ rows_after (λ x. with_beat x t.clock) (cond b (Err NoRelay) (Ok i)) t.relays)
    by_health true = (refl, refl)
    by_health false = (refl, rw (← found_at (is_relay n) t.relays i r e r) (row_set (λ x. with_beat x t.clock) t.relays i r))

-- what heartbeat answers on a table that keeps the limits
beat_fits : (clock : ℕ) (n : RelayNo) (rows : List Relay) → table_fits clock rows ≡ true → beat_answer clock n rows ≡ beat_in clock (find (is_relay n) rows)
unfolding beat_answer
beat_fits clock n rows e = rw e

pub heartbeat_same : (n : RelayNo) (t : Tables) → sound_tables t ≡ true → length t.relays ≡ relay_rows
    → ((heartbeat_rule n t).answer.number ≡ beat_number t.clock n t.relays) × ((heartbeat_rule n t).tables.relays ≡ beat_rows t.clock n t.relays)
unfolding heartbeat_rule relay_of
heartbeat_same n t h l =
    let same = heartbeat_at_lem n t (find (is_relay n) t.relays) refl in
    let e = sym (beat_fits t.clock n t.relays (sound_fits t h l)) in
    (same.0 ∙ ap (λ (a : Result ℕ Refusal). answer_number a) e, same.1 ∙ ap (λ (a : Result ℕ Refusal). rows_after (λ x. with_beat x t.clock) a t.relays) e)
