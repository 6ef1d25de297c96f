-- Document 01, "The calls" and "Journal": the kinds of records with their fields, and the calls that records stand for. Assumes nothing.
use Rattle.std.specs.Prelude.{Bool, cond, List, [], ◌∷◌, map, ℕ, eqb, Option, None, Some}
use Rattle.rules.specs.Scope.{ScopeArg}
use Rattle.rules.specs.Calls.{Ask, advance, create, deposit, delete, undelete, grant, attenuate, revoke, remove, look, register, heartbeat, Work, opens, stages, commits, abandons, Call, ask, on_slot}
pub use Rattle.journal.specs.declared.Version.{Version}
use Rattle.journal.specs.declared.Version.TheVariants.{V01, V02}
use Rattle.journal.specs.declared.Kind.{Kind}
use Rattle.journal.specs.declared.Kind.TheVariants.{Advance, Create, Deposit, Delete, Undelete, Grant, Attenuate, Revoke, Open, Stage, Commit, Abandon, Remove, Look, Register, Heartbeat}
use Rattle.journal.specs.declared.Field.{Field}
use Rattle.journal.specs.declared.Field.TheVariants as its
use Rattle.journal.specs.Fields.{Format, number, text, bytes, cap, mode, ValuesOf, Decoded, nothing, found, decode_all, encode_all, fits_all}

-- "One version byte 01"; 02, W1: "so the version byte becomes 02; a 01 journal is still read"
abbrev pub v01 : Version
v01 = V01

abbrev pub v02 : Version
v02 = V02

-- the version of a byte: "Missing or other version byte" names none
abbrev pub version_numbered : ℕ → Option Version
version_numbered n = cond (eqb n 0x01) (Some v01) (cond (eqb n 0x02) (Some v02) None)

-- "Text is one length byte and the bytes"; W1: "Journal texts then need a two-byte length"
abbrev pub text_width : Version → ℕ
text_width V01 = 1
text_width V02 = 2

-- "a text above 255 bytes"; W1: "A version 02 text has at most 1,024 bytes; a longer one is 27 when read, 1 when written."
abbrev pub text_most : Version → ℕ
text_most V01 = 255
text_most V02 = 1024

-- "Volume, token and relay numbers are u32; slot, K, M u8; account and hash 32 bytes; sizes, coins and blocks u64."
abbrev pub format_of : Version → Field → Format
format_of v its.Account = bytes 32
format_of v its.No = number 4
format_of v its.Slot = number 1
format_of v its.K = number 1
format_of v its.M = number 1
format_of v its.Text = text (text_width v) (text_most v)
format_of v its.Amount = number 8
format_of v its.Hash = bytes 32
format_of v its.Mode = mode
format_of v its.Cap = cap
format_of v its.From = number 8
format_of v its.Until = number 8

-- the fields under the table's words
abbrev pub account : Field
account = its.Account

abbrev pub volume : Field
volume = its.No

abbrev pub token : Field
token = its.No

abbrev pub relay : Field
relay = its.No

abbrev pub slot : Field
slot = its.Slot

abbrev pub data_shards : Field
data_shards = its.K

abbrev pub parity_shards : Field
parity_shards = its.M

abbrev pub name : Field
name = its.Text

abbrev pub path : Field
path = its.Text

abbrev pub block : Field
block = its.Amount

abbrev pub coins : Field
coins = its.Amount

abbrev pub size : Field
size = its.Amount

abbrev pub capacity : Field
capacity = its.Amount

abbrev pub hash : Field
hash = its.Hash

abbrev pub cap_field : Field
cap_field = its.Cap

-- "scope is prefix, mode u8, cap, from u64, until u64"
abbrev pub scope : List Field
scope = its.Text ∷ its.Mode ∷ its.Cap ∷ its.From ∷ its.Until ∷ []

-- the table's second column
abbrev pub fields_of : Version → Kind → List Field
fields_of v Advance = block ∷ []
fields_of v Create = account ∷ name ∷ data_shards ∷ parity_shards ∷ cap_field ∷ []
fields_of v Deposit = volume ∷ coins ∷ []
fields_of v Delete = account ∷ volume ∷ []
fields_of v Undelete = account ∷ volume ∷ []
fields_of v Grant = account ∷ volume ∷ scope
fields_of v Attenuate = token ∷ scope
fields_of v Revoke = account ∷ token ∷ []
fields_of v Open = slot ∷ token ∷ []
fields_of v Stage = slot ∷ path ∷ size ∷ hash ∷ []
fields_of v Commit = slot ∷ []
fields_of v Abandon = slot ∷ []
fields_of v Remove = account ∷ volume ∷ path ∷ []
fields_of v Look = token ∷ path ∷ []
fields_of v Register = capacity ∷ []
fields_of v Heartbeat = relay ∷ []

-- its first column
abbrev pub kind_number : Kind → ℕ
kind_number Advance = 0x01
kind_number Create = 0x02
kind_number Deposit = 0x03
kind_number Delete = 0x04
kind_number Undelete = 0x05
kind_number Grant = 0x06
kind_number Attenuate = 0x07
kind_number Revoke = 0x08
kind_number Open = 0x09
kind_number Stage = 0x0a
kind_number Commit = 0x0b
kind_number Abandon = 0x0c
kind_number Remove = 0x0d
kind_number Look = 0x0e
kind_number Register = 0x0f
kind_number Heartbeat = 0x10

-- the kinds of 01
abbrev pub all_kinds : List Kind
all_kinds =
    Advance ∷ Create ∷ Deposit ∷ Delete ∷ Undelete ∷ Grant ∷ Attenuate ∷ Revoke ∷ Open ∷ Stage ∷ Commit ∷ Abandon ∷ Remove ∷ Look ∷ Register
    ∷ Heartbeat
    ∷ []

-- the kinds that a journal of the version has
abbrev pub kinds : Version → List Kind
kinds V01 = all_kinds
kinds V02 = all_kinds

-- the kind of a number among some kinds
unfoldable pub kind_among : ℕ → List Kind → Option Kind
kind_among n [] = None
kind_among n (k ∷ ks) = cond (eqb n (kind_number k)) (Some k) (kind_among n ks)

abbrev pub kind_numbered : Version → ℕ → Option Kind
kind_numbered v n = kind_among n (kinds v)

-- the forms of a kind's fields, one after another
abbrev pub forms_of : Version → List Field → List Format
forms_of v fs = map (format_of v) fs

-- what the fields of a record hold
abbrev pub Values : Version → Kind → Type 0
Values v k = ValuesOf (forms_of v (fields_of v k))

-- the scope that a call names, of the values of its fields, and back
abbrev pub scope_of : (v : Version) → ValuesOf (forms_of v scope) → ScopeArg
scope_of v x = record { prefix = x.0; mode = x.1.0; cap = x.1.1.0; «from» = x.1.1.1.0; until = x.1.1.1.1.0 }

abbrev pub scope_values : (v : Version) → ScopeArg → ValuesOf (forms_of v scope)
scope_values v s = (s.prefix, (s.mode, (s.cap, (s.«from», (s.until, tt)))))

-- the call that a record of the kind with these values stands for
abbrev pub call_of : (v : Version) (k : Kind) → Values v k → Call
call_of v Advance x = ask (advance x.0)
call_of v Create x = ask (create (record { 0 = x.0 }) x.1.0 x.1.1.0 x.1.1.1.0 x.1.1.1.1.0)
call_of v Deposit x = ask (deposit (record { 0 = x.0 }) x.1.0)
call_of v Delete x = ask (delete (record { 0 = x.0 }) (record { 0 = x.1.0 }))
call_of v Undelete x = ask (undelete (record { 0 = x.0 }) (record { 0 = x.1.0 }))
call_of v Grant x = ask (grant (record { 0 = x.0 }) (record { 0 = x.1.0 }) (scope_of v x.1.1))
call_of v Attenuate x = ask (attenuate (record { 0 = x.0 }) (scope_of v x.1))
call_of v Revoke x = ask (revoke (record { 0 = x.0 }) (record { 0 = x.1.0 }))
call_of v Open x = on_slot x.0 (opens (record { 0 = x.1.0 }))
call_of v Stage x = on_slot x.0 (stages x.1.0 x.1.1.0 (record { 0 = x.1.1.1.0 }))
call_of v Commit x = on_slot x.0 commits
call_of v Abandon x = on_slot x.0 abandons
call_of v Remove x = ask (remove (record { 0 = x.0 }) (record { 0 = x.1.0 }) x.1.1.0)
call_of v Look x = ask (look (record { 0 = x.0 }) x.1.0)
call_of v Register x = ask (register x.0)
call_of v Heartbeat x = ask (heartbeat (record { 0 = x.0 }))

-- the kind of a call
abbrev pub ask_kind : Ask → Kind
ask_kind (advance b) = Advance
ask_kind (create a n k m c) = Create
ask_kind (deposit v c) = Deposit
ask_kind (delete a v) = Delete
ask_kind (undelete a v) = Undelete
ask_kind (grant a v s) = Grant
ask_kind (attenuate k s) = Attenuate
ask_kind (revoke a k) = Revoke
ask_kind (remove a v p) = Remove
ask_kind (look k p) = Look
ask_kind (register c) = Register
ask_kind (heartbeat r) = Heartbeat

abbrev pub work_kind : Work → Kind
work_kind (opens k) = Open
work_kind (stages p s h) = Stage
work_kind commits = Commit
work_kind abandons = Abandon

abbrev pub kind_of : Call → Kind
kind_of (ask a) = ask_kind a
kind_of (on_slot s w) = work_kind w

-- the values of a call's fields
abbrev pub ask_values : (v : Version) (a : Ask) → Values v (ask_kind a)
ask_values v (advance b) = (b, tt)
ask_values v (create a n k m c) = (a.0, (n, (k, (m, (c, tt)))))
ask_values v (deposit n c) = (n.0, (c, tt))
ask_values v (delete a n) = (a.0, (n.0, tt))
ask_values v (undelete a n) = (a.0, (n.0, tt))
ask_values v (grant a n s) = (a.0, (n.0, scope_values v s))
ask_values v (attenuate k s) = (k.0, scope_values v s)
ask_values v (revoke a k) = (a.0, (k.0, tt))
ask_values v (remove a n p) = (a.0, (n.0, (p, tt)))
ask_values v (look k p) = (k.0, (p, tt))
ask_values v (register c) = (c, tt)
ask_values v (heartbeat r) = (r.0, tt)

abbrev pub work_values : (v : Version) (s : ℕ) (w : Work) → Values v (work_kind w)
work_values v s (opens k) = (s, (k.0, tt))
work_values v s (stages p n h) = (s, (p, (n, (h.0, tt))))
work_values v s commits = (s, tt)
work_values v s abandons = (s, tt)

abbrev pub values_of : (v : Version) (c : Call) → Values v (kind_of c)
values_of v (ask a) = ask_values v a
values_of v (on_slot s w) = work_values v s w

-- what a record's bytes hold: a kind and the values of its fields, or nothing
pub data Parsed (v : Version) : Type 0 where
  unfit : Parsed v
  parsed : (k : Kind) → Values v k → Parsed v

-- "exactly that long": no byte is left over
abbrev pub whole : (v : Version) (k : Kind) → Decoded (Values v k) → Parsed v
whole v k nothing = unfit
whole v k (found x []) = parsed k x
whole v k (found x (b ∷ l)) = unfit

abbrev pub parse_kind : (v : Version) → Option Kind → List ℕ → Parsed v
parse_kind v None l = unfit
parse_kind v (Some k) l = whole v k (decode_all (forms_of v (fields_of v k)) l)

-- "then kind and fields"
unfoldable pub parse : (v : Version) → List ℕ → Parsed v
parse v [] = unfit
parse v (n ∷ l) = parse_kind v (kind_numbered v n) l

abbrev pub call_parsed : (v : Version) → Parsed v → Option Call
call_parsed v unfit = None
call_parsed v (parsed k x) = Some (call_of v k x)

-- the call that a record's bytes stand for; nothing is "Cut or unfitting record, unknown kind, cap byte or mode: 27"
unfoldable pub read_record : Version → List ℕ → Option Call
read_record v l = call_parsed v (parse v l)

-- a record's bytes
unfoldable pub record_bytes : (v : Version) (k : Kind) → Values v k → List ℕ
record_bytes v k x = kind_number k ∷ encode_all (forms_of v (fields_of v k)) x

-- the bytes of the record that stands for a call
unfoldable pub write_record : Version → Call → List ℕ
write_record v c = record_bytes v (kind_of c) (values_of v c)

-- the call can be written: its texts are short enough, its numbers within their bytes, its account and hash 32 bytes
unfoldable pub writable : Version → Call → Bool
writable v c = fits_all (forms_of v (fields_of v (kind_of c))) (values_of v c)
