-- The bytes of what is left of the number, before those that are written, are the whole number's.
use Rattle.journal_writer.proofs.OverLaws.{NumberPutLoop}
use Rattle.journal_writer.proofs.bytes.put_number.Given as goal

abbrev pub invariant-loop-i : goal.invariant-loop-i
invariant-loop-i l = NumberPutLoop l.initial.out l.fn.at l.fn.w l.fn.n l.i l.rest l.out
