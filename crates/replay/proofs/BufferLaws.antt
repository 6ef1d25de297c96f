-- The part of a buffer that holds the journal, and the one that holds the transcript. Assumes nothing.
use Rattle.std.specs.Prelude.{◌≡◌, Bool, true, false, cond, List, ◌++◌, ℕ, ◌≤◌, length, take, drop, Result, Ok, Err}
use Rattle.std.specs.Result.{result_unwrap_or}
use Rattle.std.proofs.Common.{arith, sym, length-append, length-take-le}
use Rattle.printed.specs.Transcript.{transcript}
use Rattle.transcripts.specs.declared.ReplayError.{ReplayError}
use Rattle.transcripts.specs.declared.ReplayError.TheVariants as error
use Rattle.transcripts.specs.Replay.{too_short, answer_of, buffer_of}

-- the first n bytes are n
pub first_bytes : (l : List ℕ) (n : ℕ) → n ≤ length l → n ≡ length (take n l)
first_bytes l n h = sym (length-take-le n l h)

-- what was written lies in the buffer
module _ (journal buf out : List ℕ) (w : Result ℕ ReplayError) (e : w ≡ answer_of journal buf) (f : out ≡ buffer_of journal buf) (len : ℕ) (q : len ≡ result_unwrap_or w 0) where
  pub written_within : len ≤ length out
  unfolding answer_of buffer_of
  written_within = rw (q, e, f) (go (too_short journal buf))
    where
      go : (b : Bool) → result_unwrap_or (cond b (Err error.Room) (Ok (length (transcript journal)))) 0 ≤ length (cond b buf (transcript journal ++ drop (length (transcript journal)) buf))
      go true = omega arith
      go false = omega (arith, length-append (transcript journal) (drop (length (transcript journal)) buf))

  pub written_bytes : len ≡ length (take len out)
  written_bytes = first_bytes out len written_within
