-- Document 01, "The relay table is a lent slice of relay records, 32 rows": what heartbeat and give-back answer on a table that its caller
-- keeps, and the rows after them. Assumes nothing.
use Rattle.std.specs.Prelude.{Bool, ◌&&◌, ◌||◌, cond, not, List, [], ◌∷◌, ℕ, ◌-◌, ◌/◌, ◌%◌, eqb, leb, length, Result, Ok, Err, ⊤}
use Rattle.lists.specs.Lists.{Hit, miss, hit, find, all_of, no_clash, modify}
use Rattle.rules.specs.declared.RelayNo.{RelayNo}
use Rattle.rules.specs.declared.Relay.{Relay}
use Rattle.rules.specs.Limits.{relay_rows, capacity_limit, clock_limit, last_number}
use Rattle.rules.specs.Numbers.{answer_number}
use Rattle.rules.specs.Relays.{health}
use Rattle.rules.specs.Sound.{is_given, same_relay_row}
use Rattle.rules.specs.Tables.{free_relay, is_relay, with_beat, with_room}
use Rattle.rules.specs.declared.refusals.Refusal.{Refusal}
use Rattle.rules.specs.declared.refusals.Refusal.TheVariants.{Bad, NoRelay}

-- "Answered 1 before all else: a desk or relay table that breaks a limit of this paper". What a row breaks by itself: a number that is
-- never given, since "each kind .. ends at 65,535", "capacity at most 2^42", used bytes within it, "a heartbeat .. after the clock". A free
-- row is free whatever else it holds
unfoldable pub row_fits : ℕ → Relay → Bool
row_fits clock r =
    free_relay r
    || (is_given last_number r.no.0 && leb r.capacity capacity_limit && leb r.used r.capacity && leb r.beat clock)

-- the table: "32 rows", a clock up to 2^40, each row, "a number .. held twice"
unfoldable pub table_fits : ℕ → List Relay → Bool
table_fits clock rows =
    eqb (length rows) relay_rows && leb clock clock_limit && all_of (row_fits clock) rows && no_clash same_relay_row rows

-- "26": "unknown, or health 0"
unfoldable pub beat_in : ℕ → Hit Relay → Result ℕ Refusal
beat_in clock miss = Err NoRelay
beat_in clock (hit i r) = cond (eqb (health clock r) 0) (Err NoRelay) (Ok i)

-- heartbeat: 1 before all else, then 26; else the row that is changed
unfoldable pub beat_answer : ℕ → RelayNo → List Relay → Result ℕ Refusal
beat_answer clock n rows = cond (not (table_fits clock rows)) (Err Bad) (beat_in clock (find (is_relay n) rows))

-- "only to a relay still in the table"
unfoldable pub back_in : Hit Relay → Result ℕ Refusal
back_in miss = Err NoRelay
back_in (hit i r) = Ok i

-- give-back: 1 before all else, then 26. No clock is given, so that a heartbeat cannot be tested against it: it is tested against 2^40, the last
-- block that a clock may have
unfoldable pub back_answer : RelayNo → List Relay → Result ℕ Refusal
back_answer n rows = cond (not (table_fits clock_limit rows)) (Err Bad) (back_in (find (is_relay n) rows))

-- a relay after one shard of so many bytes was given back, neither count below 0
abbrev pub lighter : Relay → ℕ → Relay
lighter r bytes = with_room r (r.used - bytes) (r.held - 1)

-- the rows of a set, one bit for each, the first row's lowest: each of them after one shard of so many bytes was given back to it
unfoldable pub lighter_in : ℕ → ℕ → List Relay → List Relay
lighter_in set bytes [] = []
lighter_in set bytes (r ∷ rs) = cond (eqb (set % 2) 1) (lighter r bytes) r ∷ lighter_in (set / 2) bytes rs

-- the rows after a call with this answer: "A refusal gives its number .. and the desk is as before", else one row is changed
unfoldable pub rows_after : (Relay → Relay) → Result ℕ Refusal → List Relay → List Relay
rows_after change (Err why) rows = rows
rows_after change (Ok i) rows = modify change i rows

-- an answer that says no more than whether the call was accepted
abbrev pub bare : Result ℕ Refusal → Result ⊤ Refusal
bare (Ok i) = Ok tt
bare (Err why) = Err why

-- heartbeat: what it answers, and the rows after it
abbrev pub beat_result : ℕ → RelayNo → List Relay → Result ⊤ Refusal
beat_result clock n rows = bare (beat_answer clock n rows)

abbrev pub beat_number : ℕ → RelayNo → List Relay → ℕ
beat_number clock n rows = answer_number (beat_answer clock n rows)

abbrev pub beat_rows : ℕ → RelayNo → List Relay → List Relay
beat_rows clock n rows = rows_after (λ r. with_beat r clock) (beat_answer clock n rows) rows

-- give-back: what it answers, and the rows after it
abbrev pub back_result : RelayNo → List Relay → Result ⊤ Refusal
back_result n rows = bare (back_answer n rows)

abbrev pub back_number : RelayNo → List Relay → ℕ
back_number n rows = answer_number (back_answer n rows)

abbrev pub back_rows : ℕ → RelayNo → List Relay → List Relay
back_rows bytes n rows = rows_after (λ r. lighter r bytes) (back_answer n rows) rows
