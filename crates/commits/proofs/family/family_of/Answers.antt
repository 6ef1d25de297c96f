use Rattle.commits.specs.FamilyLaws.{families}
use Rattle.commits.proofs.family.family_of.Goals as goal

pub loop-n-init : goal.loop-n-init
loop-n-init c = search families

pub returns-in_default : goal.returns-in_default
returns-in_default c = search families

pub offset_bounds-rows-i : goal.offset_bounds-rows-i
offset_bounds-rows-i c = search families

pub bounds-rows-i : goal.bounds-rows-i
bounds-rows-i c = search families

pub loop-n-preserved : goal.loop-n-preserved
loop-n-preserved c = search families

pub returns : goal.returns
returns c = search families
