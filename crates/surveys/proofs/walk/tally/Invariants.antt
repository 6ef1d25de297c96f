-- `walk::tally` meets its contract: what was said and counted, with the entries that are left, is the whole. Assumes nothing.
use Rattle.surveys.proofs.SurveyLaws.{TallyLoop}
use Rattle.surveys.proofs.walk.tally.Given as goal

abbrev pub invariant-loop-i : goal.invariant-loop-i
invariant-loop-i l = TallyLoop l.n l.marks l.entries l.i l.within l.kept l.used
