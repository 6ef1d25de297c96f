-- What heartbeat and give-back answer: `X-none` where the search found no row, `X-at` at the row that it found. Assumes nothing.
use Prim.Native.Nat.{ℕ}
use mathlib.Core.List.{List}
use Rattle.lists.specs.AnswerLaws.{NoRow, AtRow, no_row, at_row}
use Rattle.rules.specs.declared.RelayNo.{RelayNo}
use Rattle.rules.specs.declared.Relay.{Relay}
use Rattle.rules.specs.Tables.{is_relay}
use Rattle.rows.specs.Blank.{blank_relay}
use Rattle.lent_relays.specs.Lent.{beat_in, back_in}

module _ (n : RelayNo) (rows : List Relay) where
  pub beat_none : (clock : ℕ) → NoRow (beat_in clock) (is_relay n) rows
  beat_none clock = no_row (beat_in clock) _ _

  pub beat_at : (clock : ℕ) → AtRow (beat_in clock) (is_relay n) rows blank_relay
  beat_at clock = at_row (beat_in clock) _ _ _

  pub back_none : NoRow back_in (is_relay n) rows
  back_none = no_row back_in _ _

  pub back_at : AtRow back_in (is_relay n) rows blank_relay
  back_at = at_row back_in _ _ _
