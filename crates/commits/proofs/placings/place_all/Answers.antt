use Rattle.commits.proofs.PlaceLoops.{places}
use Rattle.commits.proofs.placings.place_all.Goals as goal

pub loop-i-init : goal.loop-i-init
loop-i-init c = search places

pub returns-then-not-one : goal.returns-then-not-one
returns-then-not-one c = search places

pub loop-i-preserved : goal.loop-i-preserved
loop-i-preserved c = search places

pub returns : goal.returns
returns c = search places
