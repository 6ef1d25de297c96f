-- What a replay that gives the desk as bytes answers, and what it leaves in all that is lent to it: the transcript, the desk and the
-- transcript's length, or, where one of the two buffers is too short, what was there. Assumes nothing.
use Rattle.std.specs.Prelude.{Bool, ◌||◌, cond, List, ◌++◌, ℕ, ltb, length, drop, Result, Ok, Err}
use Rattle.rules.specs.Numbers.{ROOM}
use Rattle.printed.specs.Room.{room_for}
use Rattle.transcripts.specs.declared.ReplayError.{ReplayError}
use Rattle.transcripts.specs.Replay.{desk_after}
use Rattle.printed.specs.Transcript as printed
use Rattle.desk_bytes.specs.Layout.{desk_bytes, desk_length}
use Rattle.desk_bytes.specs.Writing as desks

module _ (journal transcript desk : List ℕ) where
  -- 12: "writers: output too short", for either buffer
  unfoldable pub too_short : Bool
  too_short = ltb (length desk) desk_length || ltb (length transcript) (room_for (length journal))

  -- 0, or 12
  unfoldable pub desk_number : ℕ
  desk_number = cond too_short ROOM 0

  -- the journal's transcript and then what stood there
  unfoldable pub transcript_left : List ℕ
  transcript_left = cond too_short transcript (printed.transcript journal ++ drop (length (printed.transcript journal)) transcript)

  -- the bytes of the desk after the journal and then what stood there
  unfoldable pub desk_left : List ℕ
  desk_left = cond too_short desk (desk_bytes (desk_after journal) ++ drop desk_length desk)

  -- how many bytes the transcript has
  unfoldable pub length_left : ℕ → ℕ
  length_left before = cond too_short before (length (printed.transcript journal))

-- a buffer for the desk after a replay with this answer: the desk after the journal where that is no refusal and there is room for it
unfoldable pub desk_where : Result ℕ ReplayError → List ℕ → List ℕ → List ℕ
desk_where (Ok len) journal desk = desks.buffer_of (desk_after journal) desk
desk_where (Err e) journal desk = desk
