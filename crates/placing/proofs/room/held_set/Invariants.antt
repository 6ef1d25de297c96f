-- `room::held_set` meets its contract: before each row, the bits of the rows so far. Assumes nothing.
use Rattle.placing.specs.Room.{has_shard}
use Rattle.placing.proofs.SetLaws.{SetLoop}
use Rattle.placing.proofs.room.held_set.Given as goal

abbrev pub invariant-loop-i : goal.invariant-loop-i
invariant-loop-i l = SetLoop (has_shard l.place) l.rows 32 l.i l.set
