-- The transcript of a journal fits a buffer of `room_for` its length. Assumes nothing.
use Rattle.std.specs.Prelude.{◌≡◌, refl, Bool, true, false, cond, List, [], ◌∷◌, ℕ, zero, suc, ◌+◌, ◌*◌, ◌^◌, ◌<◌, ◌≤◌, min, ltb, length, Option, None, Some}
use Rattle.std.proofs.Math.Nat.{min-eq_left, min-eq_right}
use Rattle.std.proofs.Common.{arith, ltb-false, lit<, length-append}
use Rattle.std.proofs.Math.Pow.{are_bytes}
use Rattle.lists.specs.BoolLaws.{and_right}
use Rattle.rules.specs.declared.Desk.{Desk}
use Rattle.rules.specs.Fresh.{fresh_desk}
use Rattle.rules.specs.Calls.{Call, step, rule}
use Rattle.rules.proofs.Laws.StaysSound.{DeskInvariant}
use Rattle.rules.proofs.Laws.Reached.{call_keeps}
use Rattle.rules.proofs.Laws.FreshSound.{fresh_holds}
use Rattle.journal.specs.Fields.{Decoded, nothing, found}
use Rattle.journal.specs.declared.Version.{Version}
use Rattle.journal.specs.Records.{version_numbered, parse, read_record}
use Rattle.journal.specs.Places.{RECORD}
use Rattle.journal.specs.Journal.{journal_most, TOO_LARGE, VERSION, framed, stopped, on_call, on_frame, records_in, records, on_version, versioned, contents}
use Rattle.journal.proofs.JournalLaws.{records_step, apart}
use Rattle.printed.specs.Transcript.{first_line, record_line, program_rate, transcript}
use Rattle.printed.specs.TranscriptLaws.{printed_from, from_start, from_call, from_stop, from_end}
use Rattle.printed.specs.LineLaws.{line_most, stop_most, end_most}
use Rattle.printed.specs.SmallAnswers.{Small, small_answer}
use Rattle.printed.specs.Room.{room_for}

-- a call on a sound desk is answered by its rule
pub answered : (c : Call) (d : Desk) → DeskInvariant d → step c d ≡ rule c d
unfolding step
answered c d i = rw i.passes

-- a record that stands for a call has 3 bytes or more with its length
some_body : (v : Version) (body : List ℕ) (c : Call) → read_record v body ≡ Some c → 1 ≤ length body
unfolding read_record parse
some_body v [] c e = absurd (let z : ◌≡◌ {A = ℕ} 0 1 = cc in omega arith)
some_body v (b ∷ l) c e = omega arith

-- so many bytes for the records of l and the last line
abbrev most : List ℕ → ℕ
most l = 14 + 10 * length l

-- with the place of each record below 10^5
abbrev Fits : ℕ → List ℕ → Type 0
Fits n l = n + length l < 10 ^ 5

stop_fits : (n k : ℕ) (d : Desk) (l : List ℕ) → Fits n l → k < 100 → length (printed_from n d (stopped k)) ≤ most l
stop_fits n k d l h m = rw (from_stop n d k) (omega (arith, stop_most n k (omega arith) m))

-- what is still to be printed of the records of l fits
abbrev RecordsFit : Version → List ℕ → Type 0
RecordsFit v l = are_bytes l ≡ true → (n : ℕ) (d : Desk) → DeskInvariant d → Fits n l → length (printed_from n d (records v l)) ≤ most l

-- the first record, where those after it fit
module _ (v : Version) (l : List ℕ) (h : are_bytes l ≡ true) (n : ℕ) (d : Desk) (i : DeskInvariant d) (f : Fits n l)
    (others : (rest : List ℕ) → length rest < length l → RecordsFit v rest) where
  call_fits : (body rest : List ℕ) → framed l ≡ found body rest → (o : Option Call) → read_record v body ≡ o
      → length (printed_from n d (on_call o (records v rest))) ≤ most l
  call_fits body rest e None r = stop_fits n RECORD d l f (lit< tt)
  call_fits body rest e (Some c) r =
      let a = apart l body rest h e in
      let w = some_body v body c r in
      let z : Small (step c d).answer = rw (answered c d i) (small_answer c d i.passes) in
      let line = record_line (n + 1) (step c d).answer in
      let p = line_most (n + 1) (step c d).answer (omega (arith, a.size)) z.number z.value in
      let q = others rest (omega (arith, a.size)) a.bytes (n + 1) (step c d).desk (call_keeps c d i) (omega (arith, a.size)) in
      rw (from_call n d c (records v rest), length-append line (printed_from (n + 1) (step c d).desk (records v rest))) (omega (arith, a.size, p, q))

  frame_fits : (x : Decoded (List ℕ)) → framed l ≡ x → length (printed_from n d (on_frame v (records v) x)) ≤ most l
  frame_fits nothing e = stop_fits n RECORD d l f (lit< tt)
  frame_fits (found body rest) e = call_fits body rest e (read_record v body) refl

-- no record
none_fit : (v : Version) → RecordsFit v []
unfolding records_in
none_fit v h n d i f = rw (from_end n d) (omega (arith, end_most n (omega arith)))

records_fit : (v : Version) (k : ℕ) (l : List ℕ) → length l ≤ k → RecordsFit v l
records_fit v zero [] s = none_fit v
records_fit v zero (b ∷ l) s = absurd (omega arith)
records_fit v (suc k) [] s = none_fit v
records_fit v (suc k) (b ∷ l) s =
    λ h n d i f.
    rw (records_step v b l) (frame_fits v (b ∷ l) h n d i f (λ rest q. records_fit v k rest (omega arith)) (framed (b ∷ l)) refl)

-- from the first line on
contents_fit : (l : List ℕ) → are_bytes l ≡ true → length (printed_from 0 (fresh_desk program_rate) (contents l)) ≤ 14 + 10 * min (length l) journal_most
unfolding contents
contents_fit l h = on_size (ltb journal_most (length l)) refl
  where
    stops : (k : ℕ) → k < 100 → length (printed_from 0 (fresh_desk program_rate) (stopped k)) ≤ 14 + 10 * min (length l) journal_most
    stops k m = omega (arith, stop_fits 0 k (fresh_desk program_rate) [] (lit< tt) m)

    on_byte : (b : ℕ) (m : List ℕ) → are_bytes (b ∷ m) ≡ true → length (b ∷ m) ≤ journal_most → (o : Option Version)
        → length (printed_from 0 (fresh_desk program_rate) (on_version o m)) ≤ 14 + 10 * length (b ∷ m)
    on_byte b m h s (Some v) = omega (arith, records_fit v (length m) m (omega arith) (and_right (ltb b 256) (are_bytes m) h) 0 (fresh_desk program_rate) (fresh_holds program_rate) (omega arith))
    on_byte b m h s None = omega (arith, stop_fits 0 VERSION (fresh_desk program_rate) [] (lit< tt) (lit< tt))

    read : (m : List ℕ) → are_bytes m ≡ true → length m ≤ journal_most → length (printed_from 0 (fresh_desk program_rate) (versioned m)) ≤ 14 + 10 * length m
    read [] h s = stop_fits 0 VERSION (fresh_desk program_rate) [] (lit< tt) (lit< tt)
    read (b ∷ m) h s = on_byte b m h s (version_numbered b)

    on_size : (t : Bool) → ltb journal_most (length l) ≡ t
        → length (printed_from 0 (fresh_desk program_rate) (cond t (stopped TOO_LARGE) (versioned l))) ≤ 14 + 10 * min (length l) journal_most
    on_size true e = stops TOO_LARGE (lit< tt)
    on_size false e = let s = ltb-false journal_most (length l) e in rw (min-eq_left s) (read l h s)

-- the transcript of a journal fits the room that is stated for it
pub transcript_fits : (l : List ℕ) → are_bytes l ≡ true → length (transcript l) ≤ room_for (length l)
unfolding transcript room_for
transcript_fits l h = rw (from_start (contents l), length-append first_line (printed_from 0 (fresh_desk program_rate) (contents l))) (omega (arith, contents_fit l h))

-- ---- the room that is stated

pub room_large : (n : ℕ) → journal_most < n → 21 + 10 * journal_most ≡ room_for n
unfolding room_for
room_large n h = let k : journal_most ≤ n = omega arith in rw (min-eq_right k)

pub room_small : (n : ℕ) → n ≤ journal_most → 21 + 10 * n ≡ room_for n
unfolding room_for
room_small n h = rw (min-eq_left h)

pub least_room : (n : ℕ) → 21 ≤ room_for n
unfolding room_for
least_room n = omega arith
