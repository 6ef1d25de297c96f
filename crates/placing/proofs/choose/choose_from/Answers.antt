-- `choose::choose_from` meets its contract: the first of the set's relays in their order. Assumes nothing.
use Rattle.placing.proofs.ChooseLaws.{chooses}
use Rattle.placing.proofs.choose.choose_from.Goals as goal

pub returns : goal.returns
returns c = search chooses
