use Rattle.kept_commits.proofs.TokenLaws.{kept-families}
use Rattle.kept_commits.proofs.family.kept_family.Goals as goal

pub loop-n-init : goal.loop-n-init
loop-n-init c = search kept-families

pub returns-in_default : goal.returns-in_default
returns-in_default c = search kept-families

pub offset_bounds-rows-i : goal.offset_bounds-rows-i
offset_bounds-rows-i c = search kept-families

pub bounds-rows-i : goal.bounds-rows-i
bounds-rows-i c = search kept-families

pub loop-n-preserved : goal.loop-n-preserved
loop-n-preserved c = search kept-families

pub returns : goal.returns
returns c = search kept-families
