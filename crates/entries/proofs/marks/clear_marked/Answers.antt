use Rattle.entries.specs.MarkLaws.{clearing}
use Rattle.entries.proofs.marks.clear_marked.Goals.{else-marks-i, then-marks-i}
use Rattle.entries.proofs.marks.clear_marked.Goals as goal

pub loop-i-init : goal.loop-i-init
loop-i-init c = search clearing

pub loop-i-preserved : goal.loop-i-preserved
loop-i-preserved c = elim c.if-marks-i.branch [ then-marks-i w ↦ search clearing | else-marks-i w ↦ search clearing ]

pub returns : goal.returns
returns c = search clearing
