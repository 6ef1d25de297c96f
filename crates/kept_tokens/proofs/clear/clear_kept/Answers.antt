use Rattle.kept_tokens.specs.KeptTokenLaws.{cleared_in_lem}
use Rattle.kept_tokens.proofs.ClearLaws.{clears, clear_row, keep_row}
use Rattle.kept_tokens.proofs.clear.clear_kept.Goals.{else-in_set, then-in_set}
use Rattle.kept_tokens.proofs.clear.clear_kept.Goals as goal

pub loop-i-init : goal.loop-i-init
loop-i-init c = search clears

pub loop-i-preserved : goal.loop-i-preserved
loop-i-preserved c = elim c.if-in_set.branch [ then-in_set w ↦ search clear_row | else-in_set w ↦ search keep_row ]

pub returns : goal.returns
returns c = (search clears, λ j. search (cleared_in_lem, clears))
