use Rattle.lists.specs.ByteLoopLaws.{fill_step_of}
use Rattle.rules.specs.Fresh.{no_relay}
use Rattle.sound_rows.specs.Places.{place_number, place_numbers}
use Rattle.sound_rows.proofs.PlaceLaws.{places}
use Rattle.sound_rows.proofs.placements.place_numbers.Goals as goal

pub loop-i-preserved : goal.loop-i-preserved
unfolding place_numbers
loop-i-preserved c = search (fill_step_of place_number no_relay, places)

pub returns : goal.returns
unfolding place_numbers
returns c = search places
