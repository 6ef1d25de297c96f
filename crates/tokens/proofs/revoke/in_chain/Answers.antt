use Rattle.tokens.proofs.WalkLaws.{walks}
use Rattle.tokens.proofs.revoke.in_chain.Goals as goal

pub returns-then-is_wide_number : goal.returns-then-is_wide_number
returns-then-is_wide_number c = search walks

pub returns-in_default : goal.returns-in_default
returns-in_default c = search walks

pub returns-then-is_wide_number-2 : goal.returns-then-is_wide_number-2
returns-then-is_wide_number-2 c = search walks

pub loop-count-preserved : goal.loop-count-preserved
loop-count-preserved c = search walks

pub returns : goal.returns
returns c = search walks
