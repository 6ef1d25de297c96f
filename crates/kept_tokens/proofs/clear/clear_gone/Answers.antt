use Rattle.rules.proofs.Laws.ClearLoops.{clears}
use Rattle.kept_tokens.specs.KeptTokenLaws.{gone_in}
use Rattle.kept_tokens.proofs.clear.clear_gone.Goals.{else-is_kept_gone, then-is_kept_gone}
use Rattle.kept_tokens.proofs.clear.clear_gone.Goals as goal

pub loop-i-init : goal.loop-i-init
loop-i-init c = search clears

pub loop-i-preserved : goal.loop-i-preserved
loop-i-preserved c = elim c.if-is_kept_gone.branch [ then-is_kept_gone w ↦ search clears | else-is_kept_gone w ↦ search clears ]

pub returns : goal.returns
returns c j = search (gone_in, clears)
