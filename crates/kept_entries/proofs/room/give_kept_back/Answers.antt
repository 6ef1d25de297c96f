use Rattle.entries.specs.MarkLaws.{give_none}
use Rattle.kept_entries.proofs.GiveLaws.{kept_Gives}
use Rattle.kept_entries.proofs.room.give_kept_back.Goals.{else-marks-i, then-marks-i}
use Rattle.kept_entries.proofs.room.give_kept_back.Goals as goal

-- no mark
pub returns-then-not-any_mark : goal.returns-then-not-any_mark
returns-then-not-any_mark c = search give_none

pub loop-i-preserved : goal.loop-i-preserved
loop-i-preserved c = elim c.if-marks-i.branch [ then-marks-i w ↦ search kept_Gives | else-marks-i w ↦ search kept_Gives ]

pub returns : goal.returns
returns c = search kept_Gives
