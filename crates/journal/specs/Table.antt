-- How the code's answers stand for the definitions: a number at a place, one field read, the fields that are left. Assumes nothing.
use Rattle.std.specs.Prelude.{List, [], ◌∷◌, ℕ, ◌+◌, length, drop, Option, None, Some, Result, Ok, Err}
use Rattle.journal.specs.declared.Field.{Field}
use Rattle.journal.specs.declared.Field.TheVariants as its
use Rattle.journal.specs.declared.Record.{Record}
use Rattle.journal.specs.declared.errors.JournalError.{JournalError}
use Rattle.journal.specs.declared.errors.JournalError.TheVariants as error
use Rattle.journal.specs.Fields.{Format, number, text, bytes, cap, mode, Decoded, nothing, found, ValueOf, ValuesOf, decode_number, decode_all, encode}
use Rattle.journal.specs.Records.{Version, v01, format_of, forms_of}
use Rattle.journal.specs.Places.{place, place_all}

abbrev pub as_answer : Decoded ℕ → Option ℕ
as_answer nothing = None
as_answer (found n rest) = Some n

-- the number of w bytes at the front
unfoldable pub number_at : ℕ → List ℕ → Option ℕ
number_at w l = as_answer (decode_number w l)

-- the record and the place after a field that was read
abbrev pub step_to : (v : Version) (f : Field) → ℕ → Record → Decoded (ValueOf (format_of v f)) → Option (Record × ℕ)
step_to v f at r nothing = None
step_to v f at r (found x rest) = Some (place v f at x r, at + length (encode (format_of v f) x))

-- how many bytes a field that is a number has, in every version; 0 for the others
abbrev pub width_in : Format → ℕ
width_in (number w) = w
width_in (text w most) = 0
width_in (bytes n) = 0
width_in cap = 0
width_in mode = 0

abbrev pub width_of : Field → ℕ
width_of f = width_in (format_of v01 f)

-- the record with a field that is a number; the others are left as they are
abbrev pub place_number : Field → ℕ → Record → Record
place_number its.Account n r = r
place_number its.No n r = place v01 its.No 0 n r
place_number its.Slot n r = place v01 its.Slot 0 n r
place_number its.K n r = place v01 its.K 0 n r
place_number its.M n r = place v01 its.M 0 n r
place_number its.Text n r = r
place_number its.Amount n r = place v01 its.Amount 0 n r
place_number its.Hash n r = r
place_number its.Mode n r = r
place_number its.Cap n r = r
place_number its.From n r = place v01 its.From 0 n r
place_number its.Until n r = place v01 its.Until 0 n r

abbrev pub step_number : Field → ℕ → Record → Decoded ℕ → Option (Record × ℕ)
step_number f at r nothing = None
step_number f at r (found n rest) = Some (place_number f n r, at + width_of f)

-- the answer once the fields that are left were read: no byte may be left over
abbrev pub ending : (v : Version) (fs : List Field) → ℕ → Record → Decoded (ValuesOf (forms_of v fs)) → Result Record JournalError
ending v fs at r nothing = Err error.Record
ending v fs at r (found x []) = Ok (place_all v fs at x r)
ending v fs at r (found x (b ∷ l)) = Err error.Record

-- the answer where these fields are left to read, from the place on, into the record
unfoldable pub read_on : (v : Version) (fs : List Field) → ℕ → Record → List ℕ → Result Record JournalError
read_on v fs at r l = ending v fs at r (decode_all (forms_of v fs) (drop at l))
