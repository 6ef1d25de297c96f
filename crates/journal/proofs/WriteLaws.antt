-- The laws of the writer: a record that it is given stands for one call, and what it writes of it reads as that call. Assumes nothing.
use Rattle.std.specs.Prelude.{◌≡◌, refl, true, ◌&&◌, List, [], ◌∷◌, ◌++◌, ℕ, ◌*◌, ◌^◌, ◌<◌, ◌≤◌, leb, ltb, length, Some}
use Rattle.std.proofs.Common.{ap, arith, lit≤, length-append, lt-ltb, le-leb, leb-true, eq-eqb}
use Rattle.amount.specs.declared.Cap.{Cap}
use Rattle.amount.specs.declared.Cap.TheVariants.{Unlimited, Bytes}
use Rattle.journal.specs.declared.Kind.{Kind}
use Rattle.journal.specs.declared.Kind.TheVariants.{Advance, Create, Deposit, Delete, Undelete, Grant, Attenuate, Revoke, Open, Stage, Commit, Abandon, Remove, Look, Register, Heartbeat}
use Rattle.journal.specs.declared.Field.{Field}
use Rattle.journal.specs.declared.Field.TheVariants as its
use Rattle.journal.specs.declared.Fields.{Fields}
use Rattle.journal.specs.Numbers.{bytes_of}
use Rattle.lists.specs.BoolLaws.{and_left, and_right}
use Rattle.journal.proofs.NumberLaws.{length_bytes_of}
use Rattle.journal.specs.Fields.{text, found, encode, encode_all, fits, fits_all, cap_fits, cap_bytes}
use Rattle.journal.proofs.FieldLaws.{decode_encode}
use Rattle.journal.specs.Records.{Version, text_width, text_most, format_of, forms_of, fields_of, call_of, call_parsed, read_record, record_bytes}
use Rattle.journal.specs.VersionLaws.{width_most, text_most_lem, text_counted}
use Rattle.journal.proofs.RecordLaws.{parse_record}
use Rattle.journal.specs.Journal.{framed}
use Rattle.journal.specs.Writes.{value_in, values_in, givable, givable_all, in_frame}

-- what the types of the code say of a record to be written
pub record Sized (d : Fields) : Type 0 where
  pub account : length d.account ≡ 32
  pub no : d.no < 256 ^ 4
  pub slot : d.slot < 256 ^ 1
  pub k : d.k < 256 ^ 1
  pub m : d.m < 256 ^ 1
  pub amount : d.amount < 256 ^ 8
  pub hash : length d.hash ≡ 32
  pub cap : cap_fits d.cap ≡ true
  pub «from» : d.«from» < 256 ^ 8
  pub until : d.until < 256 ^ 8

text_fits : (v : Version) (t : List ℕ) → leb (length t) (text_most v) ≡ true → (leb (length t) (text_most v) && ltb (length t) (256 ^ text_width v)) ≡ true
text_fits v t g =
    let h : length t ≤ text_most v = leb-true _ _ g in
    let k : length t < 256 ^ text_width v = omega (arith, text_counted v) in
    rw (g, lt-ltb (length t) (256 ^ text_width v) k)

given_fits : (v : Version) (f : Field) (d : Fields) (t : List ℕ) → Sized d → givable v f d t ≡ true → fits (format_of v f) (value_in v f d t) ≡ true
unfolding fits
given_fits v its.Account d t s g = eq-eqb _ _ s.account
given_fits v its.No d t s g = lt-ltb _ _ s.no
given_fits v its.Slot d t s g = lt-ltb _ _ s.slot
given_fits v its.K d t s g = lt-ltb _ _ s.k
given_fits v its.M d t s g = lt-ltb _ _ s.m
given_fits v its.Text d t s g = text_fits v t g
given_fits v its.Amount d t s g = lt-ltb _ _ s.amount
given_fits v its.Hash d t s g = eq-eqb _ _ s.hash
given_fits v its.Mode d t s g = refl
given_fits v its.Cap d t s g = s.cap
given_fits v its.From d t s g = lt-ltb _ _ s.«from»
given_fits v its.Until d t s g = lt-ltb _ _ s.until

pub all_fit : (v : Version) (fs : List Field) (d : Fields) (t : List ℕ) → Sized d → givable_all v fs d t ≡ true → fits_all (forms_of v fs) (values_in v fs d t) ≡ true
unfolding givable_all fits_all
all_fit v [] d t s g = refl
all_fit v (f ∷ fs) d t s g = rw (given_fits v f d t s (and_left (givable v f d t) _ g)) (all_fit v fs d t s (and_right (givable v f d t) _ g))

-- no field has more than 1,026 bytes
cap_short : (c : Cap) → length (cap_bytes c) ≤ 1026
cap_short Unlimited = omega (arith, length_bytes_of 1 0)
cap_short (Bytes n) = omega (arith, length-append (bytes_of 1 1) (bytes_of 8 n), length_bytes_of 1 1, length_bytes_of 8 n)

field_short : (v : Version) (f : Field) (d : Fields) (t : List ℕ) → Sized d → givable v f d t ≡ true → length (encode (format_of v f) (value_in v f d t)) ≤ 1026
unfolding encode
field_short v its.Account d t s g = omega (arith, s.account)
field_short v its.No d t s g = omega (arith, length_bytes_of 4 d.no)
field_short v its.Slot d t s g = omega (arith, length_bytes_of 1 d.slot)
field_short v its.K d t s g = omega (arith, length_bytes_of 1 d.k)
field_short v its.M d t s g = omega (arith, length_bytes_of 1 d.m)
field_short v its.Text d t s g = omega (arith, leb-true (length t) (text_most v) g, width_most v, text_most_lem v, length-append (bytes_of (text_width v) (length t)) t, length_bytes_of (text_width v) (length t))
field_short v its.Amount d t s g = omega (arith, length_bytes_of 8 d.amount)
field_short v its.Hash d t s g = omega (arith, s.hash)
field_short v its.Mode d t s g = rw (length_bytes_of 1 _) (lit≤ tt)
field_short v its.Cap d t s g = cap_short d.cap
field_short v its.From d t s g = omega (arith, length_bytes_of 8 d.«from»)
field_short v its.Until d t s g = omega (arith, length_bytes_of 8 d.until)

all_short : (v : Version) (fs : List Field) (d : Fields) (t : List ℕ) → Sized d → givable_all v fs d t ≡ true
    → length (encode_all (forms_of v fs) (values_in v fs d t)) ≤ 1026 * length fs
unfolding givable_all encode_all
all_short v [] d t s g = omega arith
all_short v (f ∷ fs) d t s g =
    let b = encode (format_of v f) (value_in v f d t) in
    let bs = encode_all (forms_of v fs) (values_in v fs d t) in
    omega (arith, length-append b bs, field_short v f d t s (and_left (givable v f d t) _ g), all_short v fs d t s (and_right (givable v f d t) _ g))

pub few_fields : (v : Version) (k : Kind) → length (fields_of v k) ≤ 7
few_fields v Advance = lit≤ tt
few_fields v Create = lit≤ tt
few_fields v Deposit = lit≤ tt
few_fields v Delete = lit≤ tt
few_fields v Undelete = lit≤ tt
few_fields v Grant = lit≤ tt
few_fields v Attenuate = lit≤ tt
few_fields v Revoke = lit≤ tt
few_fields v Open = lit≤ tt
few_fields v Stage = lit≤ tt
few_fields v Commit = lit≤ tt
few_fields v Abandon = lit≤ tt
few_fields v Remove = lit≤ tt
few_fields v Look = lit≤ tt
few_fields v Register = lit≤ tt
few_fields v Heartbeat = lit≤ tt

-- a record that the writer can give, in its frame, is found there again, whatever follows it
pub frame_found : (v : Version) (k : Kind) (d : Fields) (t rest : List ℕ) → Sized d → givable_all v (fields_of v k) d t ≡ true
    → framed (in_frame (record_bytes v k (values_in v (fields_of v k) d t)) ++ rest) ≡ found (record_bytes v k (values_in v (fields_of v k) d t)) rest
unfolding record_bytes fits
frame_found v k d t rest s g =
    let fs = fields_of v k in
    let b = record_bytes v k (values_in v fs d t) in
    let h : length b ≤ 65535 = omega (arith, all_short v fs d t s g, few_fields v k) in
    let u : length b < 256 ^ 2 = omega arith in
    decode_encode (text 2 65535) b rest (rw (le-leb (length b) 65535 h, lt-ltb (length b) (256 ^ 2) u))

-- and reads as its call
pub record_read : (v : Version) (k : Kind) (d : Fields) (t : List ℕ) → Sized d → givable_all v (fields_of v k) d t ≡ true
    → read_record v (record_bytes v k (values_in v (fields_of v k) d t)) ≡ Some (call_of v k (values_in v (fields_of v k) d t))
unfolding read_record
record_read v k d t s g = ap (call_parsed v) (parse_record v k (values_in v (fields_of v k) d t) (all_fit v (fields_of v k) d t s g))

-- what the writer is given stands for the same call in every version
pub given_alike : (v w : Version) (k : Kind) (d : Fields) (t : List ℕ) → call_of v k (values_in v (fields_of v k) d t) ≡ call_of w k (values_in w (fields_of w k) d t)
given_alike v w Advance d t = refl
given_alike v w Create d t = refl
given_alike v w Deposit d t = refl
given_alike v w Delete d t = refl
given_alike v w Undelete d t = refl
given_alike v w Grant d t = refl
given_alike v w Attenuate d t = refl
given_alike v w Revoke d t = refl
given_alike v w Open d t = refl
given_alike v w Stage d t = refl
given_alike v w Commit d t = refl
given_alike v w Abandon d t = refl
given_alike v w Remove d t = refl
given_alike v w Look d t = refl
given_alike v w Register d t = refl
given_alike v w Heartbeat d t = refl
