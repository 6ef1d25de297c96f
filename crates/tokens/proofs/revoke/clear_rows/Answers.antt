use Rattle.tokens.proofs.RevokeLaws.{clears, clear_row, keep_row}
use Rattle.tokens.proofs.revoke.clear_rows.Goals.{else-in_set, then-in_set}
use Rattle.tokens.proofs.revoke.clear_rows.Goals as goal

pub loop-i-init : goal.loop-i-init
loop-i-init c = search clears

pub loop-i-preserved : goal.loop-i-preserved
loop-i-preserved c = elim c.if-in_set.branch [ then-in_set w ↦ search clear_row | else-in_set w ↦ search keep_row ]

pub returns : goal.returns
returns c = search clears
