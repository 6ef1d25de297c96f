use Rattle.rules.specs.Relays.{eligible_set}
use Rattle.placing.proofs.SetLaws.{sets}
use Rattle.placing.proofs.set.eligible.Goals.{else-is_eligible, then-is_eligible}
use Rattle.placing.proofs.set.eligible.Goals as goal

pub loop-i-init : goal.loop-i-init
unfolding eligible_set
loop-i-init c = search sets

pub loop-i-preserved : goal.loop-i-preserved
unfolding eligible_set
loop-i-preserved c = elim c.if-is_eligible.branch [ then-is_eligible w ↦ search sets | else-is_eligible w ↦ search sets ]

pub returns : goal.returns
unfolding eligible_set
returns c = search sets
