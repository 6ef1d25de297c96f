use Rattle.entries.specs.MarkLaws.{clearing}
use Rattle.kept_entries.proofs.RowLaws.{cleared_of}
use Rattle.kept_entries.proofs.marks.clear_kept_entries.Goals.{else-marks-i, then-marks-i}
use Rattle.kept_entries.proofs.marks.clear_kept_entries.Goals as goal

pub loop-i-init : goal.loop-i-init
loop-i-init c = search clearing

pub loop-i-preserved : goal.loop-i-preserved
loop-i-preserved c = elim c.if-marks-i.branch [ then-marks-i w ↦ search clearing | else-marks-i w ↦ search clearing ]

pub returns : goal.returns
returns c = search (cleared_of, clearing)
