use Rattle.lists.specs.ByteLoopLaws.{Fills-of}
use Rattle.commits.proofs.QuotaLaws.{token_most, charge_free, charge_other, charge_one, charge_end}
use borrow.Author.Rules.{rules}
use Rattle.commits.proofs.charge.charge.Goals.{else-rows-i-ne0, then-rows-i-ne0+else-is_member, then-rows-i-ne0+then-is_member}
use Rattle.commits.proofs.charge.charge.Goals as goal

pub charge_row-requires : goal.charge_row-requires
charge_row-requires c = search (token_most, Fills-of)

pub loop-i-preserved : goal.loop-i-preserved
loop-i-preserved c = elim c.if-rows-i-ne0.branch [ then-rows-i-ne0+then-is_member w ↦ search (charge_one, rules) | then-rows-i-ne0+else-is_member w ↦ search (charge_other, rules) | else-rows-i-ne0 w ↦ search (charge_free, rules) ]

pub returns : goal.returns
returns c = search (charge_end, Fills-of)
