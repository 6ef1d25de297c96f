-- How many bytes of a lent buffer are always enough for the transcript of a journal of so many bytes. Assumes nothing.
use Rattle.std.specs.Prelude.{ℕ, ◌+◌, ◌*◌, min}
use Rattle.journal.specs.Journal.{journal_most}

-- the first line has 7 bytes and the last at most 14; a record has 3 bytes or more, and its line at most 30. Above 65,536 bytes no record is read
unfoldable pub room_for : ℕ → ℕ
room_for n = 21 + 10 * min n journal_most
