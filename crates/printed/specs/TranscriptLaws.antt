-- A transcript line by line: what is still to be printed after some records, by what stands next in the journal. Assumes nothing.
use Rattle.std.specs.Prelude.{◌≡◌, ℕ, ◌+◌}
use Rattle.std.proofs.Common.{◌∙◌, zero-add}
use mathlib.Core.List.{List, [], ◌∷◌, ◌++◌, append_assoc}
use native.Mathlib.Omega.{arith}
use Rattle.std.proofs.Math.ListN.{length}
use Rattle.rules.specs.declared.Desk.{Desk}
use Rattle.rules.specs.Fresh.{fresh_desk}
use Rattle.rules.specs.Calls.{Call, step, answers}
use Rattle.journal.specs.Journal.{Ending, end, stop, Contents, stopped, ended, after}
use Rattle.printed.specs.Transcript.{first_line, record_line, record_lines, last_line, program_rate, printed}

-- what is still to be printed: so many records were, they left the desk d, and the rest of the journal holds c
unfoldable pub printed_from : ℕ → Desk → Contents → List ℕ
printed_from n d c = record_lines (n + 1) (answers c.calls d) ++ last_line (n + length c.calls) c.ending

pub from_start : (c : Contents) → printed c ≡ first_line ++ printed_from 0 (fresh_desk program_rate) c
unfolding printed printed_from
from_start c = append_assoc first_line (record_lines 1 (answers c.calls (fresh_desk program_rate))) (last_line (length c.calls) c.ending) ∙ rw (zero-add (length c.calls))

module _ (n : ℕ) (d : Desk) where
  -- a record, then the others
  pub from_call : (c : Call) (j : Contents)
      → printed_from n d (after c j) ≡ record_line (n + 1) (step c d).answer ++ printed_from (n + 1) (step c d).desk j
  unfolding printed_from record_lines answers
  from_call c j =
      let e : n + length (c ∷ j.calls) ≡ n + 1 + length j.calls = omega arith in
      rw e
      (append_assoc (record_line (n + 1) (step c d).answer) (record_lines (n + 1 + 1) (answers j.calls (step c d).desk))
      (last_line (n + 1 + length j.calls) j.ending))

  -- no record: a fault, or the end
  pub from_last : (e : Ending) → printed_from n d (record { calls = []; ending = e }) ≡ last_line n e
  unfolding printed_from record_lines answers
  from_last e = let z : n + length {A = Call} [] ≡ n = omega arith in rw z

  pub from_stop : (number : ℕ) → printed_from n d (stopped number) ≡ last_line n (stop number)
  from_stop number = from_last (stop number)

  pub from_end : printed_from n d ended ≡ last_line n end
  from_end = from_last end
