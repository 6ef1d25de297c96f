use Rattle.rules.proofs.Laws.ClearLoops.{clears}
use Rattle.epochs.proofs.leave.relays_left.Goals.{else-is_dead, then-is_dead}
use Rattle.epochs.proofs.leave.relays_left.Goals as goal

pub loop-i-init : goal.loop-i-init
loop-i-init c = search clears

pub loop-i-preserved : goal.loop-i-preserved
loop-i-preserved c = elim c.if-is_dead.branch [ then-is_dead w ↦ search clears | else-is_dead w ↦ search clears ]

pub returns : goal.returns
returns c = search clears
