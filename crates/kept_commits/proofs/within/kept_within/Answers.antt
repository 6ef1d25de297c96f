use Rattle.lists.specs.LoopLaws.{alls}
use Rattle.kept_commits.proofs.TokenLaws.{kept_over, kept_under, kept_free, within_in}
use borrow.Author.Rules.{rules}
use Rattle.kept_commits.proofs.within.kept_within.Goals.{else-rows-i-ne0, then-rows-i-ne0+else-rows-i-gt1152921504606846976}
use Rattle.kept_commits.proofs.within.kept_within.Goals as goal

pub returns-then-rows-i-gt1152921504606846976 : goal.returns-then-rows-i-gt1152921504606846976
returns-then-rows-i-gt1152921504606846976 c = (search (kept_over, rules), λ j. search (within_in, kept_over, rules))

pub loop-i-preserved : goal.loop-i-preserved
loop-i-preserved c = elim c.if-rows-i-ne0.branch [ then-rows-i-ne0+else-rows-i-gt1152921504606846976 w ↦ search (kept_under, rules) | else-rows-i-ne0 w ↦ search (kept_free, rules) ]

pub returns : goal.returns
returns c = (search alls, λ j. search (within_in, alls))
