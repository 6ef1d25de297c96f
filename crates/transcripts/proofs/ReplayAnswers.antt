-- What a replay answers, and the buffer that it leaves: the buffer is too short, the journal has a fault at its start, or its records are read.
-- Assumes nothing.
use Rattle.std.specs.Prelude.{Result, Ok, Err}
use Rattle.transcripts.specs.declared.ReplayError.TheVariants as error
use mathlib.Core.Path.{◌≡◌, refl, sym, ◌∙◌, ap}
use mathlib.Core.Bool.{Bool, true, false, cond}
use mathlib.Core.List.{List, [], ◌∷◌, ◌++◌}
use Prim.Native.Nat.{ℕ, ◌+◌, ◌-◌, ◌<◌, ◌≤◌}
use native.Mathlib.Nat.{zero-add}
use native.Mathlib.Omega.{arith}
use borrow.Author.Tests.{lt-ltb, le-ltb, ltb-false}
use mir.Syntax.{w8}
use mir.Val.{Fits}
use lib.Dec.{ltb}
use lib.Pow.{are_bytes}
use lib.ListN.{length, take, drop, get_or, length-drop}
use lib.Seq.{take_all}
use Rattle.rules.specs.declared.Desk.{Desk}
use Rattle.rules.specs.Fresh.{fresh_desk}
use Rattle.rules.specs.Calls.{run}
use Rattle.journal.proofs.FieldLaws.{bytes_drop}
use Rattle.journal.specs.declared.Version.{Version}
use Rattle.journal.specs.declared.errors.JournalError.{JournalError}
use Rattle.journal.specs.declared.errors.JournalError.TheVariants as journal_error
use Rattle.journal.specs.Journal.{error_number, journal_most, stop, Contents, stopped, records, contents, first_byte, start_of}
use Rattle.journal.proofs.Theorems.{start_gives_the_contents}
use Rattle.journal.proofs.FieldLaws.{bytes_known}
use Rattle.transcripts.specs.declared.Replayed.{Replayed}
use Rattle.printed.specs.Transcript.{first_line, last_line, program_rate, transcript}
use Rattle.printed.specs.TranscriptLaws.{printed_from, from_start, from_stop}
use Rattle.printed.specs.Room.{room_for}
use Rattle.printed.specs.RoomLaws.{transcript_fits, least_room}
use Rattle.transcripts.specs.Written.{Wrote}
use Rattle.transcripts.specs.Replay.{too_short, answer_of, buffer_of, desk_after, replayed_of, Replays}
use Rattle.transcripts.proofs.OverLaws.{room_next, wrote_next}
use Rattle.transcripts.proofs.ReplayLaws.{whole_of}

-- ---- the journal's start

within_most : (l : List ℕ) (v : Version) → start_of l ≡ Ok v → length l ≤ journal_most
unfolding start_of
within_most l v e = by (ltb journal_most (length l)) refl e
  where
    by : (t : Bool) → ltb journal_most (length l) ≡ t → cond t (Err journal_error.TooLarge) (first_byte l) ≡ Ok v → length l ≤ journal_most
    by true f g = absurd (let z : ◌≡◌ {A = ℕ} 0 1 = cc in omega arith)
    by false f g = ltb-false journal_most (length l) f

pub some_there : (l : List ℕ) (x : Result Version JournalError) (v : Version) → x ≡ start_of l → x ≡ Ok v → 1 ≤ length l
unfolding start_of
some_there [] x v e z = absurd (let q : Err journal_error.Version ≡ Ok v = sym e ∙ z in let y : ◌≡◌ {A = ℕ} 0 1 = cc in omega arith)
some_there (b ∷ l) x v e z = omega arith

-- the bytes after the version, as the code has them
abbrev pub on_records : List ℕ → List ℕ
on_records l = take (length l - 1) (drop 1 l)

all_records : (l : List ℕ) → on_records l ≡ drop 1 l
all_records l = take_all (length l - 1) (drop 1 l) (omega (arith, length-drop 1 l))

-- ---- the answers

abbrev rest_of : List ℕ → List ℕ
rest_of l = printed_from 0 (fresh_desk program_rate) (contents l)

abbrev start_desk : Desk
start_desk = fresh_desk program_rate

module _ (l out₀ : List ℕ) (room : ℕ) (er : room ≡ room_for (length l)) where
  pub short_answer : (d : Desk) → d ≡ start_desk → length out₀ < room → record { written = Err error.Room; desk = d } ≡ replayed_of l out₀
  unfolding replayed_of
  short_answer d q h = rw (← er, lt-ltb (length out₀) room h, q)

  pub short_buffer : length out₀ < room → out₀ ≡ buffer_of l out₀
  unfolding buffer_of
  short_buffer h = rw (← er, lt-ltb (length out₀) room h)

  module _ (h : room ≤ length out₀) where
    pub first_room : 0 + length first_line ≤ length out₀
    first_room = omega (arith, least_room (length l))

    -- the whole transcript stands at the front
    module _ (len : ℕ) (out : List ℕ) (w : Wrote 0 (transcript l) out₀ len out) where
      done_answer : record { written = Ok len; desk = desk_after l } ≡ replayed_of l out₀
      unfolding replayed_of
      done_answer = let e : len ≡ length (transcript l) = w.place ∙ zero-add (length (transcript l)) in rw (← er, le-ltb (length out₀) room h, e)

      done_buffer : out ≡ buffer_of l out₀
      unfolding buffer_of
      done_buffer = w.buffer ∙ rw (← er, le-ltb (length out₀) room h, zero-add (length (transcript l)))

    -- the first line was written, and the rest is left
    module _ (b : (i : ℕ) → Fits w8 (get_or l i 0)) (at : ℕ) (m : List ℕ) (w : Wrote 0 first_line out₀ at m) where
      parted : transcript l ≡ first_line ++ rest_of l
      unfolding transcript
      parted = from_start (contents l)

      both_room : 0 + length (first_line ++ rest_of l) ≤ length out₀
      both_room = omega (arith, ap length parted, transcript_fits l (bytes_known l (λ i. (b i).fits)))

      rest_room : at + length (rest_of l) ≤ length m
      rest_room = room_next 0 first_line (rest_of l) out₀ at m w both_room

      rest_wrote : (len : ℕ) (out : List ℕ) → Wrote at (rest_of l) m len out → Wrote 0 (transcript l) out₀ len out
      rest_wrote len out v = rw parted (wrote_next 0 first_line (rest_of l) out₀ at m w both_room len out v)

      -- x is what the start says: a fault, or the version of the records
      module _ (x : Result Version JournalError) (ex : x ≡ start_of l) where
        module _ (cause : JournalError) (n : x ≡ Err cause) (f : ℕ) (q : f ≡ error_number cause) where
          none_held : contents l ≡ stopped f
          none_held = start_gives_the_contents l ∙ rw (← ex, n, q)

          rest_stops : rest_of l ≡ last_line 0 (stop f)
          rest_stops = ap (printed_from 0 start_desk) none_held ∙ from_stop 0 start_desk f

          desk_kept : start_desk ≡ desk_after l
          unfolding desk_after run
          desk_kept = ap (λ (k : Contents). run k.calls start_desk) (sym none_held)

          pub fault_room : at + length (last_line 0 (stop f)) ≤ length m
          fault_room = rw (← rest_stops) rest_room

          module _ (len : ℕ) (out : List ℕ) (v : Wrote at (last_line 0 (stop f)) m len out) where
            pub fault_answer : (d : Desk) → d ≡ start_desk → record { written = Ok len; desk = d } ≡ replayed_of l out₀
            fault_answer d e = rw (e, desk_kept) (done_answer len out (rest_wrote len out (rw rest_stops v)))

            pub fault_buffer : out ≡ buffer_of l out₀
            fault_buffer = done_buffer len out (rest_wrote len out (rw rest_stops v))

        module _ (v : Version) (z : x ≡ Ok v) where
          held : contents l ≡ records v (on_records l)
          held = start_gives_the_contents l ∙ rw (← ex, z, all_records l)

          rest_reads : rest_of l ≡ whole_of v (on_records l)
          rest_reads = ap (printed_from 0 start_desk) held

          pub records_bytes : are_bytes (on_records l) ≡ true
          records_bytes = rw (all_records l) (bytes_drop 1 l (bytes_known l (λ i. (b i).fits)))

          pub records_few : length (on_records l) < 65536
          records_few = rw (all_records l) (omega (arith, length-drop 1 l, within_most l v (sym ex ∙ z)))

          pub records_room : at + length (whole_of v (on_records l)) ≤ length m
          records_room = rw (← rest_reads) rest_room

          module _ (r : Replayed) (out : List ℕ) (k : Replays at (records v (on_records l)) m r out) where
            desk_left_lem : r.desk ≡ desk_after l
            unfolding desk_after
            desk_left_lem = k.desk ∙ ap (λ (c : Contents). run c.calls start_desk) (sym held)

            pub read_answer : r ≡ replayed_of l out₀
            read_answer = let e : r ≡ record { written = Ok k.len; desk = desk_after l } = rw (k.written, desk_left_lem) in
                e ∙ done_answer k.len out (rest_wrote k.len out (rw rest_reads k.wrote))

            pub read_buffer : out ≡ buffer_of l out₀
            read_buffer = done_buffer k.len out (rest_wrote k.len out (rw rest_reads k.wrote))

pub ruleset short = (short_answer, short_buffer)

pub ruleset fault = (fault_room, fault_answer, fault_buffer)

pub ruleset read = (records_bytes, records_few, records_room, read_answer, read_buffer)

-- ---- the answer without the desk

told_by : (short : Bool) (x y : Replayed) → (cond short x y).written ≡ cond short x.written y.written
told_by true x y = refl
told_by false x y = refl

pub answer_told : (l out₀ : List ℕ) (r : Replayed) → r ≡ replayed_of l out₀ → r.written ≡ answer_of l out₀
unfolding replayed_of answer_of
answer_told l out₀ r e = rw e (told_by (too_short l out₀) _ _)
