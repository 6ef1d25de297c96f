-- The law of a journal's records: one record, then the records of the rest. Assumes nothing.
use Rattle.std.specs.Prelude.{◌≡◌, refl, Bool, true, false, cond, List, [], ◌∷◌, ◌++◌, ℕ, zero, suc, ◌+◌, ◌-◌, ◌≤◌, leb, ltb, length, take, drop, Option, None, Some, Err, Ok, Result}
use Rattle.std.proofs.Common.{sym, ◌∙◌, ap, append_assoc, arith, length-drop, length-append, take_at, drop_at, leb-true}
use Rattle.std.proofs.Math.Pow.{are_bytes}
use Rattle.journal.specs.declared.Record.{Record}
use Rattle.journal.specs.declared.errors.JournalError.{JournalError}
use Rattle.journal.specs.declared.errors.JournalError.TheVariants as error
use Rattle.journal.specs.Numbers.{bytes_of}
use Rattle.journal.specs.Fields.{Decoded, nothing, found, part, as_number, as_text, decode_number, decode_text, decode, encode, text}
use Rattle.journal.proofs.FieldLaws.{on_found_found, cond_found, bytes_take, bytes_drop, decode_taken}
use Rattle.journal.proofs.NumberLaws.{length_bytes_of}
use Rattle.journal.specs.Records.{Version, version_numbered, Parsed, unfit, parsed, parse, read_record}
use Rattle.journal.specs.Places.{reading_of, read_at, call_at}
use Rattle.journal.proofs.PlaceLaws.{reading_is_call}
use Rattle.journal.specs.Journal.{journal_most, TOO_LARGE, Contents, framed, stopped, on_frame, on_call, records_in, records, on_version, versioned, contents, version_start, first_byte, start_of, on_reading, on_body, next_in, after_start, after_next}

-- a part that was found leaves so many bytes fewer
part_shorter : (n : ℕ) (l a r : List ℕ) → part n l ≡ found a r → n + length r ≤ length l
unfolding part
part_shorter n l a r e =
    let p = cond_found (leb n (length l)) (found (take n l) (drop n l)) a r e in
    let d : drop n l ≡ r = cc p.1 in
    omega (arith, leb-true n (length l) p.0, length-drop n l, ap length d)

number_shorter : (w : ℕ) (l : List ℕ) (n : ℕ) (s : List ℕ) → decode_number w l ≡ found n s → w + length s ≤ length l
unfolding decode_number
number_shorter w l n s e =
    let q = on_found_found as_number (part w l) n s e in
    let d : q.1 ≡ s = cc q.3 in
    omega (arith, part_shorter w l q.0 q.1 q.2, ap length d)

-- a record in its frame takes two bytes or more
pub framed_shorter : (l body rest : List ℕ) → framed l ≡ found body rest → 2 + length rest ≤ length l
unfolding decode decode_text
framed_shorter l body rest e =
    let q = on_found_found (as_text 65535) (decode_number 2 l) body rest e in
    let m = cond_found (leb q.0 65535) (part q.0 q.1) body rest q.3 in
    omega (arith, number_shorter 2 l q.0 q.1 q.2, part_shorter q.0 q.1 body rest m.1)

frame_same : (v : Version) (f g : List ℕ → Contents) (d : Decoded (List ℕ)) → ((body rest : List ℕ) → d ≡ found body rest → f rest ≡ g rest) → on_frame v f d ≡ on_frame v g d
frame_same v f g nothing h = refl
frame_same v f g (found body rest) h = ap (on_call (read_record v body)) (h body rest refl)

-- any bound of at least the length will do
enough : (v : Version) (n m : ℕ) (l : List ℕ) → length l ≤ n → length l ≤ m → records_in v n l ≡ records_in v m l
unfolding records_in
enough v zero zero l h k = refl
enough v zero (suc m) [] h k = refl
enough v zero (suc m) (b ∷ l) h k = absurd (omega arith)
enough v (suc n) zero [] h k = refl
enough v (suc n) zero (b ∷ l) h k = absurd (omega arith)
enough v (suc n) (suc m) [] h k = refl
enough v (suc n) (suc m) (b ∷ l) h k =
    frame_same v (λ rest. records_in v n rest) (λ rest. records_in v m rest) (framed (b ∷ l))
    (λ body rest e. enough v n m rest (omega (arith, framed_shorter (b ∷ l) body rest e)) (omega (arith, framed_shorter (b ∷ l) body rest e)))

-- one record, then the records of the rest
pub records_step : (v : Version) (b : ℕ) (l : List ℕ) → records v (b ∷ l) ≡ on_frame v (records v) (framed (b ∷ l))
unfolding records_in
records_step v b l =
    frame_same v (λ rest. records_in v (length l) rest) (records v) (framed (b ∷ l))
    (λ body rest e. enough v (length l) (length rest) rest (omega (arith, framed_shorter (b ∷ l) body rest e)) (omega arith))

-- The code's two functions: the start, and what stands next, give what the journal holds.
version_start_lem : (o : Option Version) (b : ℕ) (l : List ℕ) → on_version o l ≡ after_start (version_start o) (b ∷ l)
version_start_lem None b l = refl
version_start_lem (Some v) b l = refl

pub start_contents : (l : List ℕ) → contents l ≡ after_start (start_of l) l
unfolding contents start_of
start_contents l = by (ltb journal_most (length l)) l
  where
    by : (t : Bool) (m : List ℕ) → cond t (stopped TOO_LARGE) (versioned m) ≡ after_start (cond t (Err error.TooLarge) (first_byte m)) m
    by true m = refl
    by false [] = refl
    by false (b ∷ m) = version_start_lem (version_numbered b) b m

-- a record in its frame: its bytes, and what follows them
module _ (l body rest : List ℕ) (h : are_bytes l ≡ true) (e : framed l ≡ found body rest) where
  abbrev length_bytes : List ℕ
  length_bytes = bytes_of 2 (length body)

  whole : (length_bytes ++ body) ++ rest ≡ l
  unfolding encode
  whole = (decode_taken (text 2 65535) l body rest h e).whole

  framed_body : take (length body) (drop 2 l) ≡ body
  framed_body =
      rw (← whole, append_assoc length_bytes body rest, drop_at length_bytes (body ++ rest) 2 (length_bytes_of 2 (length body)))
      (take_at body rest (length body) refl)

  framed_rest : drop (2 + length body) l ≡ rest
  framed_rest =
      rw (← whole)
      (drop_at (length_bytes ++ body) rest (2 + length body)
      (length-append length_bytes body ∙ ap (λ (n : ℕ). n + length body) (length_bytes_of 2 (length body))))

  body_bytes : are_bytes body ≡ true
  body_bytes = rw framed_body at (bytes_take (length body) (drop 2 l) (bytes_drop 2 l h))

-- a reading that is refused is 27
refused_record : (v : Version) (x : Parsed v) (n : JournalError) → reading_of v x ≡ Err n → n ≡ error.Record
refused_record v unfit n e = cc
refused_record v (parsed k x) n e = absurd (let z : ◌≡◌ {A = ℕ} 0 1 = cc in omega arith)

-- the call of a record that was read, or 27
read_next : (v : Version) (l body rest : List ℕ) → are_bytes l ≡ true → framed l ≡ found body rest → (o : Result Record JournalError) → read_at v body ≡ o
    → on_call (read_record v body) (records v rest) ≡ after_next v l (on_reading body o)
unfolding read_at
read_next v l body rest h e (Err n) r =
    let none_read : None ≡ read_record v body = rw r at (reading_is_call v body (body_bytes l body rest h e)) in
    rw (← none_read, refused_record v (parse v body) n r)
read_next v l body rest h e (Ok x) r =
    let read : Some (call_at v x body) ≡ read_record v body = rw r at (reading_is_call v body (body_bytes l body rest h e)) in
    let len : 2 + length body - 2 ≡ length body = omega arith in
    rw (← read, len, framed_body l body rest h e, framed_rest l body rest h e)

pub next_contents : (v : Version) (l : List ℕ) → are_bytes l ≡ true → records v l ≡ after_next v l (next_in v l)
unfolding next_in records_in
next_contents v [] h = refl
next_contents v (b ∷ l) h = records_step v b l ∙ by (framed (b ∷ l)) refl
  where
    by : (d : Decoded (List ℕ)) → framed (b ∷ l) ≡ d → on_frame v (records v) d ≡ after_next v (b ∷ l) (on_body v d)
    by nothing e = refl
    by (found body rest) e = read_next v (b ∷ l) body rest h e (read_at v body) refl

-- the bytes of a record, and those after it
pub record Apart (l body rest : List ℕ) : Type 0 where
  pub size : length l ≡ 2 + length body + length rest
  pub bytes : are_bytes rest ≡ true

pub apart : (l body rest : List ℕ) → are_bytes l ≡ true → framed l ≡ found body rest → Apart l body rest
unfolding encode
apart l body rest h e =
    let t = decode_taken (text 2 65535) l body rest h e in
    record {
      size = sym (ap length t.whole) ∙ length-append (bytes_of 2 (length body) ++ body) rest ∙ omega (arith, length-append (bytes_of 2 (length body)) body, length_bytes_of 2 (length body));
      bytes = t.rest;
    }
