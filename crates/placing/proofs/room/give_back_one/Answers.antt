-- `room::give_back_one` meets its contract: the relays of the set give it back. Assumes nothing.
use Rattle.placing.proofs.RoomLaws.{given_back}
use Rattle.placing.proofs.room.give_back_one.Goals as goal

pub returns : goal.returns
returns c = search given_back
