-- The laws of records: a kind and its values and the call that they stand for are the same thing, and so are they and the bytes. The kinds enter only
-- by their lists of fields and the table of calls. Assumes nothing.
use Rattle.std.specs.Prelude.{◌≡◌, refl, Bool, true, false, cond, List, [], ◌∷◌, ℕ, eqb, ltb, Option, None, Some}
use Rattle.std.proofs.Common.{sym, ◌∙◌, ap, subst, append-nil, arith, eqb-true}
use Rattle.std.proofs.Math.Pow.{are_bytes}
use Rattle.rules.specs.Calls.{advance, create, deposit, delete, undelete, grant, attenuate, revoke, remove, look, register, heartbeat, opens, stages, commits, abandons, Call, ask, on_slot}
use Rattle.journal.specs.declared.Kind.{Kind}
use Rattle.journal.specs.declared.Kind.TheVariants.{Advance, Create, Deposit, Delete, Undelete, Grant, Attenuate, Revoke, Open, Stage, Commit, Abandon, Remove, Look, Register, Heartbeat}
use Rattle.lists.specs.BoolLaws.{and_right}
use Rattle.journal.specs.Fields.{Decoded, nothing, found, decode_all, encode_all, fits_all}
use Rattle.journal.proofs.FieldLaws.{decode_encode_all, decode_taken_all, TakenAll}
use Rattle.journal.specs.Records.{Version, fields_of, kind_number, kinds, all_kinds, kind_among, kind_numbered, forms_of, Values, call_of, kind_of, values_of, Parsed, unfit, parsed, whole, parse_kind, parse, call_parsed, record_bytes, write_record}
use Rattle.journal.specs.VersionLaws.{kinds_all}

-- ---- calls, and kinds with their values

pub call_of_values : (v : Version) (c : Call) → call_of v (kind_of c) (values_of v c) ≡ c
call_of_values v (ask (advance b)) = refl
call_of_values v (ask (create a n k m c)) = refl
call_of_values v (ask (deposit n c)) = refl
call_of_values v (ask (delete a n)) = refl
call_of_values v (ask (undelete a n)) = refl
call_of_values v (ask (grant a n s)) = refl
call_of_values v (ask (attenuate k s)) = refl
call_of_values v (ask (revoke a k)) = refl
call_of_values v (ask (remove a n p)) = refl
call_of_values v (ask (look k p)) = refl
call_of_values v (ask (register c)) = refl
call_of_values v (ask (heartbeat r)) = refl
call_of_values v (on_slot s (opens k)) = refl
call_of_values v (on_slot s (stages p n h)) = refl
call_of_values v (on_slot s commits) = refl
call_of_values v (on_slot s abandons) = refl

-- a kind with its values, as one thing
abbrev pub Sorted : Version → Type 0
Sorted v = (k : Kind) × Values v k

abbrev pub sorted : (v : Version) → Call → Sorted v
sorted v c = (kind_of c, values_of v c)

pub values_of_call : (v : Version) (k : Kind) (x : Values v k) → sorted v (call_of v k x) ≡ (k, x)
values_of_call v Advance x = refl
values_of_call v Create x = refl
values_of_call v Deposit x = refl
values_of_call v Delete x = refl
values_of_call v Undelete x = refl
values_of_call v Grant x = refl
values_of_call v Attenuate x = refl
values_of_call v Revoke x = refl
values_of_call v Open x = refl
values_of_call v Stage x = refl
values_of_call v Commit x = refl
values_of_call v Abandon x = refl
values_of_call v Remove x = refl
values_of_call v Look x = refl
values_of_call v Register x = refl
values_of_call v Heartbeat x = refl

-- ---- kinds and their numbers

-- the kinds have different numbers, and every version so far has them all
number_among : (k : Kind) → kind_among (kind_number k) all_kinds ≡ Some k
unfolding kind_among
number_among Advance = refl
number_among Create = refl
number_among Deposit = refl
number_among Delete = refl
number_among Undelete = refl
number_among Grant = refl
number_among Attenuate = refl
number_among Revoke = refl
number_among Open = refl
number_among Stage = refl
number_among Commit = refl
number_among Abandon = refl
number_among Remove = refl
number_among Look = refl
number_among Register = refl
number_among Heartbeat = refl

pub number_of_kind : (v : Version) (k : Kind) → kind_numbered v (kind_number k) ≡ Some k
number_of_kind v k = ap (kind_among (kind_number k)) (kinds_all v) ∙ number_among k

-- a number names the same kind in every version
pub one_kind : (v w : Version) (n : ℕ) (j k : Kind) → kind_numbered v n ≡ Some j → kind_numbered w n ≡ Some k → j ≡ k
one_kind v w n j k e f =
    let same : kind_numbered v n ≡ kind_numbered w n = ap (kind_among n) (kinds_all v) ∙ sym (ap (kind_among n) (kinds_all w)) in
    let z : Some j ≡ Some k = sym e ∙ same ∙ f in
    cc

pub kind_of_number : (n : ℕ) (ks : List Kind) (k : Kind) → kind_among n ks ≡ Some k → n ≡ kind_number k
unfolding kind_among
kind_of_number n [] k e = cc
kind_of_number n (j ∷ ks) k e = go (eqb n (kind_number j)) refl e (kind_of_number n ks k)
  where
    go : (t : Bool) → eqb n (kind_number j) ≡ t → cond t (Some j) (kind_among n ks) ≡ Some k → (kind_among n ks ≡ Some k → n ≡ kind_number k) → n ≡ kind_number k
    go true t e r = let ej : j ≡ k = cc in rw (← ej) (eqb-true _ _ t)
    go false t e r = r e

-- ---- records and their bytes

-- the bytes of a record are those of its call
pub record_of_call : (v : Version) (k : Kind) (x : Values v k) → record_bytes v k x ≡ write_record v (call_of v k x)
unfolding write_record
record_of_call v k x = sym (ap (λ (s : Sorted v). record_bytes v s.0 s.1) (values_of_call v k x))

-- a record that is written is parsed as its kind and values
pub parse_record : (v : Version) (k : Kind) (x : Values v k) → fits_all (forms_of v (fields_of v k)) x ≡ true → parse v (record_bytes v k x) ≡ parsed k x
unfolding parse record_bytes
parse_record v k x h =
    let e : decode_all (forms_of v (fields_of v k)) (encode_all (forms_of v (fields_of v k)) x) ≡ found x [] =
    ap (decode_all (forms_of v (fields_of v k))) (sym (append-nil (encode_all (forms_of v (fields_of v k)) x))) ∙ decode_encode_all (forms_of v (fields_of v k)) x [] h in
    rw (number_of_kind v k, e)

-- what was parsed: its values fit, and its bytes are what was there
pub record Given (v : Version) (l : List ℕ) (k : Kind) (x : Values v k) : Type 0 where
  pub same : record_bytes v k x ≡ l
  pub fit : fits_all (forms_of v (fields_of v k)) x ≡ true

whole_given : (v : Version) (k j : Kind) (d : Decoded (Values v k)) (x : Values v j) → whole v k d ≡ parsed j x
    → (y : Values v k) × (d ≡ found y []) × (parsed k y ≡ parsed j x)
whole_given v k j nothing x e = let z : ◌≡◌ {A = ℕ} 0 1 = cc in absurd (omega arith)
whole_given v k j (found y []) x e = (y, refl, e)
whole_given v k j (found y (b ∷ l)) x e = let z : ◌≡◌ {A = ℕ} 0 1 = cc in absurd (omega arith)

-- a kind with its values out of what was parsed
abbrev sorted_in : (v : Version) → Sorted v → Parsed v → Sorted v
sorted_in v s unfit = s
sorted_in v s (parsed k x) = (k, x)

kind_given : (v : Version) (n : ℕ) (l : List ℕ) (j : Kind) (y : Values v j) → n ≡ kind_number j → TakenAll (forms_of v (fields_of v j)) l y [] → Given v (n ∷ l) j y
unfolding record_bytes
kind_given v n l j y en t =
    record {
      same = rw en (ap (λ (m : List ℕ). kind_number j ∷ m) (sym (append-nil (encode_all (forms_of v (fields_of v j)) y)) ∙ t.whole));
      fit = t.fit;
    }

parse_kind_given : (v : Version) (n : ℕ) (l : List ℕ) (o : Option Kind) (k : Kind) (x : Values v k) → are_bytes l ≡ true → kind_numbered v n ≡ o
    → parse_kind v o l ≡ parsed k x → Given v (n ∷ l) k x
parse_kind_given v n l None k x h en e = let z : ◌≡◌ {A = ℕ} 0 1 = cc in absurd (omega arith)
parse_kind_given v n l (Some j) k x h en e =
    let w = whole_given v j k (decode_all (forms_of v (fields_of v j)) l) x e in
    let t = decode_taken_all (forms_of v (fields_of v j)) l w.0 [] h w.1 in
    let p : ◌≡◌ {A = Sorted v} (j, w.0) (k, x) = ap (sorted_in v (j, w.0)) w.2 in
    subst (λ (s : Sorted v). Given v (n ∷ l) s.0 s.1) p (kind_given v n l j w.0 (kind_of_number n (kinds v) j en) t)

pub parse_given : (v : Version) (l : List ℕ) (k : Kind) (x : Values v k) → are_bytes l ≡ true → parse v l ≡ parsed k x → Given v l k x
unfolding parse
parse_given v [] k x h e = let z : ◌≡◌ {A = ℕ} 0 1 = cc in absurd (omega arith)
parse_given v (n ∷ l) k x h e = parse_kind_given v n l (kind_numbered v n) k x (and_right (ltb n 256) (are_bytes l) h) refl e

-- a call that was read: the kind and values that it was made of
pub call_parsed_lem : (v : Version) (p : Parsed v) (c : Call) → call_parsed v p ≡ Some c → p ≡ parsed (kind_of c) (values_of v c)
call_parsed_lem v unfit c e = let z : ◌≡◌ {A = ℕ} 0 1 = cc in absurd (omega arith)
call_parsed_lem v (parsed k x) c e =
    let ec : call_of v k x ≡ c = cc in
    ap (λ (s : Sorted v). parsed s.0 s.1) (sym (values_of_call v k x) ∙ ap (sorted v) ec)
