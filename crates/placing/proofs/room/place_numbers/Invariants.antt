-- `room::place_numbers` meets its contract: after i turns the first i numbers are stored. Assumes nothing.
use mathlib.Core.List.{map}
use lib.ListN.{replicate}
use Rattle.lists.specs.ByteLoopLaws.{FillLoop}
use Rattle.placing.specs.Room.{relay_number}
use Rattle.placing.proofs.room.place_numbers.Given as goal

abbrev pub invariant-loop-i : goal.invariant-loop-i
invariant-loop-i l = FillLoop (replicate 24 0) 0 (map relay_number l.place.relays) 24 l.i l.numbers
