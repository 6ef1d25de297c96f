-- `put::take_place` meets its contract: the relays are loaded, or a number has no room. Assumes nothing.
use Rattle.placing.proofs.PutLaws.{no_number, took}
use Rattle.placing.proofs.put.take_place.Goals as goal

pub returns-in_default : goal.returns-in_default
returns-in_default c = search no_number

pub returns : goal.returns
returns c = search took
