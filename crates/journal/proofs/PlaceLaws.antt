-- The laws of places: the call that the reader's answer stands for is the call of the record's bytes. Assumes nothing.
use Rattle.std.specs.Prelude.{◌≡◌, refl, true, List, [], ◌∷◌, ◌++◌, ℕ, ◌+◌, length, drop, replicate, Some}
use Rattle.std.proofs.Common.{sym, ◌∙◌, ap, append_assoc, append-nil, take_at, drop_at, drop-drop, eqb-true}
use Rattle.std.proofs.Math.Pow.{are_bytes}
use Rattle.journal.specs.declared.Kind.{Kind}
use Rattle.journal.specs.declared.Kind.TheVariants.{Advance, Create, Deposit, Delete, Undelete, Grant, Attenuate, Revoke, Open, Stage, Commit, Abandon, Remove, Look, Register, Heartbeat}
use Rattle.journal.specs.declared.Field.{Field}
use Rattle.journal.specs.declared.Field.TheVariants as its
use Rattle.journal.specs.declared.Record.{Record}
use Rattle.journal.specs.Numbers.{bytes_of}
use Rattle.lists.specs.BoolLaws.{and_left, and_right}
use Rattle.journal.proofs.NumberLaws.{length_bytes_of}
use Rattle.journal.specs.Fields.{ValueOf, ValuesOf, encode, encode_all, fits, fits_all}
use Rattle.journal.specs.Records.{Version, v01, text_width, format_of, forms_of, fields_of, Values, call_of, Parsed, unfit, parsed, parse, call_parsed, read_record, record_bytes}
use Rattle.journal.proofs.RecordLaws.{parse_given}
use Rattle.journal.specs.Places.{blank, place, place_all, reading_of, read_at, bytes_at, padded32, value_at, values_at, call_at, call_read}

-- what stands after the bytes that stand at a place
pub past : (at : ℕ) (l a m : List ℕ) → drop at l ≡ a ++ m → drop (at + length a) l ≡ m
past at l a m e = sym (drop-drop (length a) at l) ∙ ap (drop (length a)) e ∙ drop_at a m (length a) refl

-- bytes that stand at a place
pub there : (at n : ℕ) (l b m : List ℕ) → drop at l ≡ b ++ m → length b ≡ n → bytes_at at n l ≡ b
there at n l b m e h = rw e (take_at b m n h)

pub there32 : (at : ℕ) (l b m : List ℕ) → drop at l ≡ b ++ m → length b ≡ 32 → padded32 (drop at l) ≡ b
there32 at l b m e h = rw (e, append_assoc b m (replicate 32 0)) (take_at b (m ++ replicate 32 0) 32 h)

-- a text that stands at a place, after its length
pub text_there : (at w : ℕ) (l t m : List ℕ) → drop at l ≡ (bytes_of w (length t) ++ t) ++ m → bytes_at (at + w) (length t) l ≡ t
text_there at w l t m e =
    let p = past at l (bytes_of w (length t)) (t ++ m) (e ∙ append_assoc (bytes_of w (length t)) t m) in
    there (at + w) (length t) l t m (rw (length_bytes_of w (length t)) at p) refl

-- a field's value, out of the record in which it was placed and the bytes at its place
pub placed : (v : Version) (f : Field) (at : ℕ) (x : ValueOf (format_of v f)) (r : Record) (l m : List ℕ) → drop at l ≡ encode (format_of v f) x ++ m
    → fits (format_of v f) x ≡ true → value_at v f (place v f at x r) l ≡ x
unfolding encode fits
placed v its.Account at x r l m e h = there32 at l x m e (eqb-true _ _ h)
placed v its.No at x r l m e h = refl
placed v its.Slot at x r l m e h = refl
placed v its.K at x r l m e h = refl
placed v its.M at x r l m e h = refl
placed v its.Text at x r l m e h = text_there at (text_width v) l x m e
placed v its.Amount at x r l m e h = refl
placed v its.Hash at x r l m e h = there32 at l x m e (eqb-true _ _ h)
placed v its.Mode at x r l m e h = refl
placed v its.Cap at x r l m e h = refl
placed v its.From at x r l m e h = refl
placed v its.Until at x r l m e h = refl

-- each field's value, placed by itself
abbrev each_at : (v : Version) (fs : List Field) → ℕ → ValuesOf (forms_of v fs) → Record → List ℕ → ValuesOf (forms_of v fs)
each_at v [] at x r l = tt
each_at v (f ∷ fs) at x r l =
    (value_at v f (place v f at x.0 r) l, each_at v fs (at + length (encode (format_of v f) x.0)) x.1 r l)

each_placed : (v : Version) (fs : List Field) (at : ℕ) (x : ValuesOf (forms_of v fs)) (r : Record) (l m : List ℕ) → drop at l ≡ encode_all (forms_of v fs) x ++ m
    → fits_all (forms_of v fs) x ≡ true → each_at v fs at x r l ≡ x
unfolding encode_all fits_all
each_placed v [] at x r l m e h = refl
each_placed v (f ∷ fs) at x r l m e h =
    let b = encode (format_of v f) x.0 in
    let more = encode_all (forms_of v fs) x.1 ++ m in
    let e₂ : drop at l ≡ b ++ more = e ∙ append_assoc b (encode_all (forms_of v fs) x.1) m in
    let p = placed v f at x.0 r l more e₂ (and_left (fits (format_of v f) x.0) _ h) in
    let q = each_placed v fs (at + length b) x.1 r l m (past at l b more e₂) (and_right (fits (format_of v f) x.0) _ h) in
    ap (λ (a : ValueOf (format_of v f)). (a, each_at v fs (at + length b) x.1 r l)) p ∙ ap (λ (y : ValuesOf (forms_of v fs)). (x.0, y)) q

-- no two fields of a kind share a place in the record
apart : (v : Version) (k : Kind) (x : Values v k) (l : List ℕ)
    → call_at v (place_all v (fields_of v k) 1 x (blank k)) l ≡ call_of v k (each_at v (fields_of v k) 1 x (blank k) l)
apart v Advance x l = refl
apart v Create x l = refl
apart v Deposit x l = refl
apart v Delete x l = refl
apart v Undelete x l = refl
apart v Grant x l = refl
apart v Attenuate x l = refl
apart v Revoke x l = refl
apart v Open x l = refl
apart v Stage x l = refl
apart v Commit x l = refl
apart v Abandon x l = refl
apart v Remove x l = refl
apart v Look x l = refl
apart v Register x l = refl
apart v Heartbeat x l = refl

placed_call : (v : Version) (l : List ℕ) (p : Parsed v) → are_bytes l ≡ true → parse v l ≡ p → call_read v (reading_of v p) l ≡ call_parsed v p
unfolding record_bytes
placed_call v l unfit h e = refl
placed_call v l (parsed k x) h e =
    let g = parse_given v l k x h e in
    let d : drop 1 l ≡ encode_all (forms_of v (fields_of v k)) x ++ [] = ap (drop 1) (sym g.same) ∙ sym (append-nil _) in
    ap Some (apart v k x l ∙ ap (call_of v k) (each_placed v (fields_of v k) 1 x (blank k) l [] d g.fit))

-- the reader's answer to a list of bytes stands for the call of those bytes
pub reading_is_call : (v : Version) (l : List ℕ) → are_bytes l ≡ true → call_read v (read_at v l) l ≡ read_record v l
unfolding read_at read_record
reading_is_call v l h = placed_call v l (parse v l) h refl

-- the call that a record stands for is the same in every version: these differ in the bytes alone
alike : (v : Version) (r : Record) (l : List ℕ) (k : Kind) → call_of v k (values_at v (fields_of v k) r l) ≡ call_of v01 k (values_at v01 (fields_of v01 k) r l)
alike v r l Advance = refl
alike v r l Create = refl
alike v r l Deposit = refl
alike v r l Delete = refl
alike v r l Undelete = refl
alike v r l Grant = refl
alike v r l Attenuate = refl
alike v r l Revoke = refl
alike v r l Open = refl
alike v r l Stage = refl
alike v r l Commit = refl
alike v r l Abandon = refl
alike v r l Remove = refl
alike v r l Look = refl
alike v r l Register = refl
alike v r l Heartbeat = refl

pub call_alike : (v : Version) (r : Record) (l : List ℕ) → call_at v r l ≡ call_at v01 r l
call_alike v r l = alike v r l r.kind
