use Rattle.tokens.proofs.WalkLaws.{descendant-sets}
use Rattle.tokens.proofs.revoke.descendant_rows.Goals.{else-descends, then-descends}
use Rattle.tokens.proofs.revoke.descendant_rows.Goals as goal

pub loop-i-init : goal.loop-i-init
loop-i-init c = search descendant-sets

pub loop-i-preserved : goal.loop-i-preserved
loop-i-preserved c = elim c.if-descends.branch [ then-descends w ↦ search descendant-sets | else-descends w ↦ search descendant-sets ]
