-- `choose::choose_relays` meets its contract: the first of the eligible relays in their order. Assumes nothing.
use Rattle.placing.proofs.ChooseLaws.{chosen_eligible}
use Rattle.placing.proofs.choose.choose_relays.Goals as goal

pub returns : goal.returns
returns c = search chosen_eligible
