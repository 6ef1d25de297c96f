use Rattle.rows.specs.LinkLaws.{CountLoop}
use Rattle.rows.proofs.chain.depth_in.Given as goal

abbrev pub invariant-loop-n : goal.invariant-loop-n
invariant-loop-n l = CountLoop l.numbers l.parents l.parent l.n l.next
