-- With the bytes of the fields so far, those that are left have the size of all.
use Rattle.journal_writer.proofs.SizeLaws.{SizeLoop}
use Rattle.journal_writer.proofs.write.measure.Given as goal

abbrev pub invariant-loop-f : goal.invariant-loop-f
invariant-loop-f l = SizeLoop l.fn.v l.fn.kind l.fn.d l.fn.text l.n l.f-index
