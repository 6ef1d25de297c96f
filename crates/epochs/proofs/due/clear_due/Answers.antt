use Rattle.rules.proofs.Laws.ClearLoops.{clears}
use Rattle.epochs.proofs.due.clear_due.Goals.{else-is_due, then-is_due}
use Rattle.epochs.proofs.due.clear_due.Goals as goal

pub loop-i-init : goal.loop-i-init
loop-i-init c = search clears

pub loop-i-preserved : goal.loop-i-preserved
loop-i-preserved c = elim c.if-is_due.branch [ then-is_due w ↦ search clears | else-is_due w ↦ search clears ]

pub returns : goal.returns
returns c = search clears
