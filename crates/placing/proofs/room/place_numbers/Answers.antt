use Rattle.lists.specs.ByteLoopLaws.{fill_step_of, Fills-of}
use Rattle.rules.specs.Fresh.{no_relay}
use Rattle.placing.specs.Room.{relay_number}
use Rattle.placing.proofs.room.place_numbers.Goals as goal

pub loop-i-preserved : goal.loop-i-preserved
loop-i-preserved c = search (fill_step_of relay_number no_relay, Fills-of)
