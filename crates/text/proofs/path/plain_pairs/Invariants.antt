-- Before each pair, whether those before it are plain.
use Rattle.text.specs.PlainLaws.{PairsLoop}
use Rattle.text.proofs.path.plain_pairs.Given as goal

abbrev pub invariant-loop-i : goal.invariant-loop-i
invariant-loop-i l = PairsLoop l.s l.i l.all
