-- `abandon` meets its contract: the desk is tested, then the slot, then the call is worked on it. Assumes nothing.
use Rattle.rules.specs.Calls.{work_rule}
use Rattle.desk.proofs.StepLaws.{unsound, no_slot, worked}
use Rattle.desk.proofs.abandon.Goals as goal

-- BAD: the desk
pub returns-then-not-is_sound : goal.returns-then-not-is_sound
unfolding work_rule
returns-then-not-is_sound c = search unsound

-- BAD: the slot
pub returns-then-slot-ge4 : goal.returns-then-slot-ge4
unfolding work_rule
returns-then-slot-ge4 c = search no_slot

pub returns : goal.returns
unfolding work_rule
returns c = search worked
