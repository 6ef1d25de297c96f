-- What the replay of a journal into a lent buffer answers, and the buffer and the desk that it leaves. Assumes nothing.
use Rattle.std.specs.Prelude.{◌≡◌, Bool, cond, List, ◌++◌, ℕ, ltb, length, drop, Result, Ok, Err}
use Rattle.rules.specs.declared.Desk.{Desk}
use Rattle.rules.specs.Numbers.{ROOM}
use Rattle.rules.specs.Fresh.{fresh_desk}
use Rattle.rules.specs.Calls.{run}
use Rattle.transcripts.specs.declared.ReplayError.{ReplayError}
use Rattle.transcripts.specs.declared.ReplayError.TheVariants as error
use Rattle.journal.specs.Journal.{Contents, contents}
use Rattle.transcripts.specs.declared.Replayed.{Replayed}
use Rattle.printed.specs.Transcript.{program_rate, transcript}
use Rattle.printed.specs.TranscriptLaws.{printed_from}
use Rattle.printed.specs.Room.{room_for}
use Rattle.transcripts.specs.Written.{Wrote}

-- 12: "writers: output too short"
abbrev pub too_short : List ℕ → List ℕ → Bool
too_short journal buf = ltb (length buf) (room_for (length journal))

-- how many bytes the transcript has, or 12
unfoldable pub answer_of : List ℕ → List ℕ → Result ℕ ReplayError
answer_of journal buf = cond (too_short journal buf) (Err error.Room) (Ok (length (transcript journal)))

-- the number of a refusal, and that of an answer: 0 where it is none
abbrev pub refusal_number : ReplayError → ℕ
refusal_number error.Room = ROOM

abbrev pub answer_number : Result ℕ ReplayError → ℕ
answer_number (Ok len) = 0
answer_number (Err e) = refusal_number e

-- the transcript and then what stood there, or all as it was
unfoldable pub buffer_of : List ℕ → List ℕ → List ℕ
buffer_of journal buf =
    cond (too_short journal buf) buf
    (transcript journal ++ drop (length (transcript journal)) buf)

-- the desk that the calls of a journal leave, made one after another from a fresh desk on: those of the whole records before a fault
unfoldable pub desk_after : List ℕ → Desk
desk_after journal = run (contents journal).calls (fresh_desk program_rate)

-- with the desk; where the buffer is too short no call is made
unfoldable pub replayed_of : List ℕ → List ℕ → Replayed
replayed_of journal buf =
    cond (too_short journal buf) (record { written = Err error.Room; desk = fresh_desk program_rate })
    (record { written = Ok (length (transcript journal)); desk = desk_after journal })

-- r is what the replay of the records c from a fresh desk on gives, with their lines and the last one written from `start` on
pub record Replays (start : ℕ) (c : Contents) (buf : List ℕ) (r : Replayed) (left : List ℕ) : Type 0 where
  pub len : ℕ
  pub written : r.written ≡ Ok len
  pub wrote : Wrote start (printed_from 0 (fresh_desk program_rate) c) buf len left
  pub desk : r.desk ≡ run c.calls (fresh_desk program_rate)
