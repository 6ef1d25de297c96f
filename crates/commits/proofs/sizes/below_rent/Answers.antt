-- `sizes::below_rent` meets its contract: within the limits a rent is worked out. Assumes nothing.
use Rattle.commits.proofs.SizeLaws.{rent_below, rent_past}
use Rattle.commits.proofs.sizes.below_rent.Goals as goal

pub returns-in-Some : goal.returns-in-Some
returns-in-Some c = search rent_below

pub returns-in-None : goal.returns-in-None
returns-in-None c = search rent_past
