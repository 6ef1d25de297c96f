use Rattle.rules.proofs.Laws.ClearLoops.{clears}
use Rattle.volumes.proofs.delete.drop_tokens.Goals.{then-is_token_of, else-is_token_of}
use Rattle.volumes.proofs.delete.drop_tokens.Goals as goal

pub loop-i-init : goal.loop-i-init
loop-i-init c = search clears

pub loop-i-preserved : goal.loop-i-preserved
loop-i-preserved c = elim c.if-is_token_of.branch [ then-is_token_of w ↦ search clears | else-is_token_of w ↦ search clears ]

pub returns : goal.returns
returns c = search clears
