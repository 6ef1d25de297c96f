-- Document 01, "Journal": "The record writer refuses a record the reader can't give (an unknown kind, a mode above 2, a text above 255 bytes) with 1,
-- then a short buffer with 12." 02, W1: "A version 02 text has at most 1,024 bytes; a longer one is .. 1 when written." Assumes nothing.
use Rattle.std.specs.Prelude.{Bool, true, ◌&&◌, cond, List, [], ◌∷◌, ◌++◌, ℕ, ◌+◌, ◌≤◌, eqb, leb, length, Option, None, Some, Result, Ok, Err}
pub use Rattle.lists.specs.Bytes.{over}
use Rattle.rules.specs.declared.Mode.{Mode}
use Rattle.rules.specs.declared.Mode.TheVariants as right
use Rattle.rules.specs.Numbers.{BAD, ROOM}
use Rattle.journal.specs.declared.Kind.{Kind}
use Rattle.journal.specs.declared.Field.{Field}
use Rattle.journal.specs.declared.Field.TheVariants as its
use Rattle.journal.specs.declared.Fields.{Fields}
use Rattle.journal.specs.declared.errors.WriteError.{WriteError}
use Rattle.journal.specs.declared.errors.WriteError.TheVariants as error
use Rattle.journal.specs.Numbers.{bytes_of}
use Rattle.journal.specs.Fields.{text, ValueOf, ValuesOf, encode}
use Rattle.journal.specs.Records.{Version, version_numbered, text_width, text_most, format_of, forms_of, fields_of, kind_numbered, record_bytes}

-- the mode of a number of at most 2
abbrev pub mode_in : ℕ → Mode
mode_in n = cond (eqb n 0) right.Read (cond (eqb n 1) right.Write right.Both)

-- a field's value, out of what the writer is given
abbrev pub value_in : (v : Version) (f : Field) → Fields → List ℕ → ValueOf (format_of v f)
value_in v its.Account d t = d.account
value_in v its.No d t = d.no
value_in v its.Slot d t = d.slot
value_in v its.K d t = d.k
value_in v its.M d t = d.m
value_in v its.Text d t = t
value_in v its.Amount d t = d.amount
value_in v its.Hash d t = d.hash
value_in v its.Mode d t = mode_in d.mode
value_in v its.Cap d t = d.cap
value_in v its.From d t = d.«from»
value_in v its.Until d t = d.until

abbrev pub values_in : (v : Version) (fs : List Field) → Fields → List ℕ → ValuesOf (forms_of v fs)
values_in v [] d t = tt
values_in v (f ∷ fs) d t = (value_in v f d t, values_in v fs d t)

-- the reader can give the field: "a mode above 2, a text above 255 bytes", or above 1,024 in version 02
abbrev pub givable : Version → Field → Fields → List ℕ → Bool
givable v its.Account d t = true
givable v its.No d t = true
givable v its.Slot d t = true
givable v its.K d t = true
givable v its.M d t = true
givable v its.Text d t = leb (length t) (text_most v)
givable v its.Amount d t = true
givable v its.Hash d t = true
givable v its.Mode d t = leb d.mode 2
givable v its.Cap d t = true
givable v its.From d t = true
givable v its.Until d t = true

unfoldable pub givable_all : Version → List Field → Fields → List ℕ → Bool
givable_all v [] d t = true
givable_all v (f ∷ fs) d t = givable v f d t && givable_all v fs d t

-- "u16 length, then kind and fields"
abbrev pub in_frame : List ℕ → List ℕ
in_frame b = encode (text 2 65535) b

abbrev pub kind_in : Version → Option Kind → Fields → List ℕ → Option (List ℕ)
kind_in v None d t = None
kind_in v (Some k) d t = cond (givable_all v (fields_of v k) d t) (Some (in_frame (record_bytes v k (values_in v (fields_of v k) d t)))) None

-- the record with its length, or nothing: an unknown kind, or a field that the reader cannot give
unfoldable pub record_in : Version → Fields → List ℕ → Option (List ℕ)
record_in v d t = kind_in v (kind_numbered v d.kind) d t

-- the record writer is told the number of the version (docs/DECISIONS.md): one that there is not is 1, as a record that the reader cannot give
abbrev pub record_for : Option Version → Fields → List ℕ → Option (List ℕ)
record_for None d t = None
record_for (Some v) d t = record_in v d t

abbrev pub record_of : ℕ → Fields → List ℕ → Option (List ℕ)
record_of n d t = record_for (version_numbered n) d t

-- what the writer answers: how many bytes it wrote, or 1, or 12
abbrev pub answer_of : Option (List ℕ) → ℕ → Result ℕ WriteError
answer_of None room = Err error.Unfit
answer_of (Some b) room = cond (leb (length b) room) (Ok (length b)) (Err error.Room)

-- the number of a refusal
abbrev pub refusal_number : WriteError → ℕ
refusal_number error.Unfit = BAD
refusal_number error.Room = ROOM

-- the buffer that it leaves: the record and then what stood there, or all as it was
abbrev pub buffer_of : Option (List ℕ) → List ℕ → List ℕ
buffer_of None buf = buf
buffer_of (Some b) buf = cond (leb (length b) (length buf)) (over 0 b buf) buf

-- ---- as the code writes a record, field by field

abbrev pub text_bytes : Version → List ℕ → List ℕ
text_bytes v t = bytes_of (text_width v) (length t) ++ t

-- the bytes of one field, and of a list of them
unfoldable pub field_bytes : Version → Field → Fields → List ℕ → List ℕ
field_bytes v f d t = encode (format_of v f) (value_in v f d t)

unfoldable pub fields_bytes : Version → List Field → Fields → List ℕ → List ℕ
fields_bytes v [] d t = []
fields_bytes v (f ∷ fs) d t = field_bytes v f d t ++ fields_bytes v fs d t

-- how many bytes they have, if the reader can give them
unfoldable pub field_size : Version → Field → Fields → List ℕ → Option ℕ
field_size v f d t = cond (givable v f d t) (Some (length (field_bytes v f d t))) None

-- the same of a list of fields, after n bytes
unfoldable pub fields_size : Version → ℕ → List Field → Fields → List ℕ → Option ℕ
fields_size v n fs d t = cond (givable_all v fs d t) (Some (n + length (fields_bytes v fs d t))) None

-- no field has more than 1,026 bytes
abbrev pub IsSmall : Option ℕ → Type 0
IsSmall (Some k) = k ≤ 1026
IsSmall None = Unit {0}

-- no record's fields have more than 7,182 bytes
abbrev pub IsSized : Option ℕ → Type 0
IsSized (Some n) = n ≤ 7182
IsSized None = Unit {0}
