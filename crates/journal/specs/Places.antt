-- What the record reader answers: the record with its numbers, and where in its bytes its account, text and hash begin. `call_at` says which call such
-- a record stands for. Assumes nothing.
use Rattle.std.specs.Prelude.{List, [], ◌∷◌, ◌++◌, ℕ, ◌+◌, length, take, drop, replicate, Option, None, Some, Result, Ok, Err}
use Rattle.amount.specs.declared.Cap.TheVariants.{Unlimited}
use Rattle.rules.specs.declared.Mode.TheVariants.{Read}
use Rattle.rules.specs.Calls.{Call}
use Rattle.journal.specs.declared.Kind.{Kind}
use Rattle.journal.specs.declared.Field.{Field}
use Rattle.journal.specs.declared.Field.TheVariants as its
use Rattle.journal.specs.declared.Record.{Record}
use Rattle.journal.specs.declared.errors.JournalError.{JournalError}
use Rattle.journal.specs.declared.errors.JournalError.TheVariants as error
use Rattle.journal.specs.Fields.{ValueOf, ValuesOf, encode}
use Rattle.journal.specs.Records.{Version, text_width, format_of, forms_of, fields_of, call_of, Parsed, unfit, parsed, parse}

-- 27: "Cut or unfitting record, unknown kind, cap byte or mode"
abbrev pub RECORD : ℕ
RECORD = 27

-- a record of the kind with no field yet
abbrev pub blank : Kind → Record
blank kind =
    record { kind = kind; account = 0; no = 0; slot = 0; k = 0; m = 0; text = 0; text_len = 0; amount = 0; hash = 0; mode = Read; cap = Unlimited; «from» = 0; until = 0 }

-- the record with one field more, whose bytes begin at the place: of an account and a hash it keeps the place, of a text the place after its length
-- and how many bytes it has, of any other field the value
abbrev pub place : (v : Version) (f : Field) → ℕ → ValueOf (format_of v f) → Record → Record
place v its.Account at x r = record { kind = r.kind; account = at; no = r.no; slot = r.slot; k = r.k; m = r.m; text = r.text; text_len = r.text_len; amount = r.amount; hash = r.hash; mode = r.mode; cap = r.cap; «from» = r.«from»; until = r.until }
place v its.No at x r = record { kind = r.kind; account = r.account; no = x; slot = r.slot; k = r.k; m = r.m; text = r.text; text_len = r.text_len; amount = r.amount; hash = r.hash; mode = r.mode; cap = r.cap; «from» = r.«from»; until = r.until }
place v its.Slot at x r = record { kind = r.kind; account = r.account; no = r.no; slot = x; k = r.k; m = r.m; text = r.text; text_len = r.text_len; amount = r.amount; hash = r.hash; mode = r.mode; cap = r.cap; «from» = r.«from»; until = r.until }
place v its.K at x r = record { kind = r.kind; account = r.account; no = r.no; slot = r.slot; k = x; m = r.m; text = r.text; text_len = r.text_len; amount = r.amount; hash = r.hash; mode = r.mode; cap = r.cap; «from» = r.«from»; until = r.until }
place v its.M at x r = record { kind = r.kind; account = r.account; no = r.no; slot = r.slot; k = r.k; m = x; text = r.text; text_len = r.text_len; amount = r.amount; hash = r.hash; mode = r.mode; cap = r.cap; «from» = r.«from»; until = r.until }
place v its.Text at x r = record { kind = r.kind; account = r.account; no = r.no; slot = r.slot; k = r.k; m = r.m; text = at + text_width v; text_len = length x; amount = r.amount; hash = r.hash; mode = r.mode; cap = r.cap; «from» = r.«from»; until = r.until }
place v its.Amount at x r = record { kind = r.kind; account = r.account; no = r.no; slot = r.slot; k = r.k; m = r.m; text = r.text; text_len = r.text_len; amount = x; hash = r.hash; mode = r.mode; cap = r.cap; «from» = r.«from»; until = r.until }
place v its.Hash at x r = record { kind = r.kind; account = r.account; no = r.no; slot = r.slot; k = r.k; m = r.m; text = r.text; text_len = r.text_len; amount = r.amount; hash = at; mode = r.mode; cap = r.cap; «from» = r.«from»; until = r.until }
place v its.Mode at x r = record { kind = r.kind; account = r.account; no = r.no; slot = r.slot; k = r.k; m = r.m; text = r.text; text_len = r.text_len; amount = r.amount; hash = r.hash; mode = x; cap = r.cap; «from» = r.«from»; until = r.until }
place v its.Cap at x r = record { kind = r.kind; account = r.account; no = r.no; slot = r.slot; k = r.k; m = r.m; text = r.text; text_len = r.text_len; amount = r.amount; hash = r.hash; mode = r.mode; cap = x; «from» = r.«from»; until = r.until }
place v its.From at x r = record { kind = r.kind; account = r.account; no = r.no; slot = r.slot; k = r.k; m = r.m; text = r.text; text_len = r.text_len; amount = r.amount; hash = r.hash; mode = r.mode; cap = r.cap; «from» = x; until = r.until }
place v its.Until at x r = record { kind = r.kind; account = r.account; no = r.no; slot = r.slot; k = r.k; m = r.m; text = r.text; text_len = r.text_len; amount = r.amount; hash = r.hash; mode = r.mode; cap = r.cap; «from» = r.«from»; until = x }

-- a list of fields, whose bytes begin at the place and follow one another
abbrev pub place_all : (v : Version) (fs : List Field) → ℕ → ValuesOf (forms_of v fs) → Record → Record
place_all v [] at x r = r
place_all v (f ∷ fs) at x r = place_all v fs (at + length (encode (format_of v f) x.0)) x.1 (place v f at x.0 r)

abbrev pub reading_of : (v : Version) → Parsed v → Result Record JournalError
reading_of v unfit = Err error.Record
reading_of v (parsed k x) = Ok (place_all v (fields_of v k) 1 x (blank k))

-- what the reader answers to a record's bytes; the fields begin after the kind
unfoldable pub read_at : Version → List ℕ → Result Record JournalError
read_at v l = reading_of v (parse v l)

-- the n bytes from a place on
abbrev pub bytes_at : ℕ → ℕ → List ℕ → List ℕ
bytes_at at n l = take n (drop at l)

-- the 32 bytes from a place on, with zeros past the end
abbrev pub padded32 : List ℕ → List ℕ
padded32 l = take 32 (l ++ replicate 32 0)

-- the account, the text and the hash of a record, out of the bytes that it was read from
abbrev pub account_at : Record → List ℕ → List ℕ
account_at r l = padded32 (drop r.account l)

abbrev pub text_at : Record → List ℕ → List ℕ
text_at r l = bytes_at r.text r.text_len l

abbrev pub hash_at : Record → List ℕ → List ℕ
hash_at r l = padded32 (drop r.hash l)

-- a field's value
abbrev pub value_at : (v : Version) (f : Field) → Record → List ℕ → ValueOf (format_of v f)
value_at v its.Account r l = account_at r l
value_at v its.No r l = r.no
value_at v its.Slot r l = r.slot
value_at v its.K r l = r.k
value_at v its.M r l = r.m
value_at v its.Text r l = text_at r l
value_at v its.Amount r l = r.amount
value_at v its.Hash r l = hash_at r l
value_at v its.Mode r l = r.mode
value_at v its.Cap r l = r.cap
value_at v its.From r l = r.«from»
value_at v its.Until r l = r.until

abbrev pub values_at : (v : Version) (fs : List Field) → Record → List ℕ → ValuesOf (forms_of v fs)
values_at v [] r l = tt
values_at v (f ∷ fs) r l = (value_at v f r l, values_at v fs r l)

-- the call that a record stands for, with the bytes that it was read from
abbrev pub call_at : Version → Record → List ℕ → Call
call_at v r l = call_of v r.kind (values_at v (fields_of v r.kind) r l)

-- the call of an answer, or nothing of a refusal
abbrev pub call_read : Version → Result Record JournalError → List ℕ → Option Call
call_read v (Err e) l = None
call_read v (Ok r) l = Some (call_at v r l)
