use Rattle.rules.proofs.Laws.ClearLoops.{clears}
use Rattle.epochs.proofs.collect.clear_tokens.Goals.{else-is_token_gone, then-is_token_gone}
use Rattle.epochs.proofs.collect.clear_tokens.Goals as goal

pub loop-i-init : goal.loop-i-init
loop-i-init c = search clears

pub loop-i-preserved : goal.loop-i-preserved
loop-i-preserved c = elim c.if-is_token_gone.branch [ then-is_token_gone w ↦ search clears | else-is_token_gone w ↦ search clears ]

pub returns : goal.returns
returns c = search clears
