-- Document 01, "Journal": the frame of records, and the calls that a whole journal holds. Assumes nothing.
use Rattle.std.specs.Prelude.{cond, List, [], ◌∷◌, ℕ, zero, suc, ◌+◌, ◌-◌, ltb, length, take, drop, Option, None, Some, Result, Ok, Err}
use Rattle.rules.specs.Calls.{Call}
use Rattle.journal.specs.declared.Record.{Record}
use Rattle.journal.specs.declared.errors.JournalError.{JournalError}
use Rattle.journal.specs.declared.errors.JournalError.TheVariants as error
use Rattle.journal.specs.Fields.{Decoded, nothing, found, text, decode}
use Rattle.journal.specs.Records.{Version, version_numbered, read_record}
use Rattle.journal.specs.Places.{RECORD, read_at, call_read}

-- "A journal above 65,536 bytes"
abbrev pub journal_most : ℕ
journal_most = 65536

-- 24 TOO LARGE: "A journal above 65,536 bytes gives "stop 0 24"."
abbrev pub TOO_LARGE : ℕ
TOO_LARGE = 24

-- 28: "Missing or other version byte"
abbrev pub VERSION : ℕ
VERSION = 28

-- "u16 length, then kind and fields, exactly that long": a record in its frame is a text with a length of two bytes
abbrev pub framed : List ℕ → Decoded (List ℕ)
framed l = decode (text 2 65535) l

-- how the reading of a journal ends
pub data Ending : Type 0 where
  end : Ending
  stop : ℕ → Ending

-- the calls of the whole records before the first fault, and the ending
pub record Contents : Type 0 where
  pub calls : List Call
  pub ending : Ending

abbrev pub stopped : ℕ → Contents
stopped n = record { calls = []; ending = stop n }

abbrev pub ended : Contents
ended = record { calls = []; ending = end }

abbrev pub after : Call → Contents → Contents
after c j = record { calls = c ∷ j.calls; ending = j.ending }

-- a record that was read, then the rest; 27 where it stands for no call
abbrev pub on_call : Option Call → Contents → Contents
on_call None more = stopped RECORD
on_call (Some c) more = after c more

-- a record in its frame, then the rest; 27 where it is cut
abbrev pub on_frame : Version → (List ℕ → Contents) → Decoded (List ℕ) → Contents
on_frame v more nothing = stopped RECORD
on_frame v more (found body rest) = on_call (read_record v body) (more rest)

-- the end, or a record and the rest
abbrev pub on_more : Version → (List ℕ → Contents) → List ℕ → Contents
on_more v more [] = ended
on_more v more (b ∷ l) = on_frame v more (framed (b ∷ l))

-- the records of a list of at most so many bytes
unfoldable pub records_in : Version → ℕ → List ℕ → Contents
records_in v zero l = ended
records_in v (suc n) l = on_more v (λ rest. records_in v n rest) l

-- the records that follow a version byte
abbrev pub records : Version → List ℕ → Contents
records v l = records_in v (length l) l

abbrev pub on_version : Option Version → List ℕ → Contents
on_version None l = stopped VERSION
on_version (Some v) l = records v l

-- "One version byte 01, then records", or 02 (W1)
abbrev pub versioned : List ℕ → Contents
versioned [] = stopped VERSION
versioned (b ∷ l) = on_version (version_numbered b) l

-- what a journal holds: 24 before 28, and before any record
unfoldable pub contents : List ℕ → Contents
contents l = cond (ltb journal_most (length l)) (stopped TOO_LARGE) (versioned l)

-- ---- as the code takes a journal apart

-- the version of a journal's records, or why it has no records to read
abbrev pub version_start : Option Version → Result Version JournalError
version_start None = Err error.Version
version_start (Some v) = Ok v

abbrev pub first_byte : List ℕ → Result Version JournalError
first_byte [] = Err error.Version
first_byte (b ∷ l) = version_start (version_numbered b)

unfoldable pub start_of : List ℕ → Result Version JournalError
start_of l = cond (ltb journal_most (length l)) (Err error.TooLarge) (first_byte l)

-- a record's reading, with how many bytes the length and the record have
abbrev pub on_reading : List ℕ → Result Record JournalError → Result (Option (Record × ℕ)) JournalError
on_reading body (Ok r) = Ok (Some (r, 2 + length body))
on_reading body (Err e) = Err e

abbrev pub on_body : Version → Decoded (List ℕ) → Result (Option (Record × ℕ)) JournalError
on_body v nothing = Err error.Record
on_body v (found body rest) = on_reading body (read_at v body)

-- "If an answer is an enum, a definition gives this paper's number": that of the fault, and 0 where there is none
abbrev pub error_number : JournalError → ℕ
error_number error.TooLarge = TOO_LARGE
error_number error.Version = VERSION
error_number error.Record = RECORD

abbrev pub reading_number : Result Record JournalError → ℕ
reading_number (Ok r) = 0
reading_number (Err e) = error_number e

abbrev pub start_number : Result Version JournalError → ℕ
start_number (Ok v) = 0
start_number (Err e) = error_number e

abbrev pub next_number : Result (Option (Record × ℕ)) JournalError → ℕ
next_number (Ok n) = 0
next_number (Err e) = error_number e

-- what stands next in the records: nothing, a whole record, or a fault
unfoldable pub next_in : Version → List ℕ → Result (Option (Record × ℕ)) JournalError
next_in v [] = Ok None
next_in v (b ∷ l) = on_body v (framed (b ∷ l))

-- what a journal holds, by its start
abbrev pub after_start : Result Version JournalError → List ℕ → Contents
after_start (Ok v) l = records v (drop 1 l)
after_start (Err e) l = stopped (error_number e)

-- what records hold, by what stands next in them: the call of a whole record, then the records after it
abbrev pub after_next : Version → List ℕ → Result (Option (Record × ℕ)) JournalError → Contents
after_next v l (Ok None) = ended
after_next v l (Ok (Some (r, n))) = on_call (call_read v (Ok r) (take (n - 2) (drop 2 l))) (records v (drop n l))
after_next v l (Err e) = stopped (error_number e)
