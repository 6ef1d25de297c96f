-- The fields that are left, over the buffer, give what all of them give.
use Rattle.journal_writer.proofs.WriteLaws.{PutLoop}
use Rattle.journal_writer.proofs.write.put_fields.Given as goal

abbrev pub invariant-loop-f : goal.invariant-loop-f
invariant-loop-f l = PutLoop l.fn.v l.initial.out l.fn.start l.fn.kind l.fn.d l.fn.text l.out l.at l.f-index
