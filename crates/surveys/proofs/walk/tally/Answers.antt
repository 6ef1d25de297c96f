use Rattle.surveys.proofs.SurveyLaws.{tallies, tally_over, tally_adds, tally_replaced, tally_other, tally_free}
use borrow.Author.Rules.{rules}
use Rattle.surveys.proofs.walk.tally.Goals.{else-entries-i-ne0, then-entries-i-ne0+else-entries-i-gt68719476736+else-entries-i, then-entries-i-ne0+else-entries-i-gt68719476736+then-entries-i+else-not-marks-i, then-entries-i-ne0+else-entries-i-gt68719476736+then-entries-i+then-not-marks-i, then-entries-i-ne0+then-entries-i-gt68719476736}
use Rattle.surveys.proofs.walk.tally.Goals as goal

pub loop-i-preserved : goal.loop-i-preserved
loop-i-preserved c = elim c.if-entries-i-ne0.branch [ then-entries-i-ne0+then-entries-i-gt68719476736 w ↦ search (tally_over, rules) | then-entries-i-ne0+else-entries-i-gt68719476736+then-entries-i+then-not-marks-i w ↦ search (tally_adds, rules) | then-entries-i-ne0+else-entries-i-gt68719476736+then-entries-i+else-not-marks-i w ↦ search (tally_replaced, rules) | then-entries-i-ne0+else-entries-i-gt68719476736+else-entries-i w ↦ search (tally_other, rules) | else-entries-i-ne0 w ↦ search (tally_free, rules) ]

pub returns : goal.returns
returns c = search tallies
