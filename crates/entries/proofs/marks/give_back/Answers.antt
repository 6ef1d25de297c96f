use Rattle.entries.specs.MarkLaws.{gives, give_none}
use Rattle.entries.proofs.marks.give_back.Goals.{else-marks-i, then-marks-i}
use Rattle.entries.proofs.marks.give_back.Goals as goal

-- no mark
pub returns-then-not-any_mark : goal.returns-then-not-any_mark
returns-then-not-any_mark c = search give_none

pub loop-i-preserved : goal.loop-i-preserved
loop-i-preserved c = elim c.if-marks-i.branch [ then-marks-i w ↦ search gives | else-marks-i w ↦ search gives ]

pub returns : goal.returns
returns c = search gives
