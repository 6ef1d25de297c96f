use Rattle.rules.proofs.Laws.ClearLoops.{clears}
use Rattle.kept_tokens.specs.KeptTokenLaws.{dropped_in}
use Rattle.kept_tokens.proofs.clear.drop_kept.Goals.{else-is_kept_of, then-is_kept_of}
use Rattle.kept_tokens.proofs.clear.drop_kept.Goals as goal

pub loop-i-init : goal.loop-i-init
loop-i-init c = search clears

pub loop-i-preserved : goal.loop-i-preserved
loop-i-preserved c = elim c.if-is_kept_of.branch [ then-is_kept_of w ↦ search clears | else-is_kept_of w ↦ search clears ]

pub returns : goal.returns
returns c j = search (dropped_in, clears)
