-- `commit` meets its contract: the desk is tested, then the slot, then the call is worked on it. Assumes nothing.
use Rattle.rules.specs.Calls.{work_rule}
use Rattle.desk.proofs.StepLaws.{unsound, no_slot, worked, tables_told, slot_told}
use Rattle.desk.proofs.commit.Goals as goal

-- BAD: the desk
pub returns-then-not-is_sound : goal.returns-then-not-is_sound
unfolding work_rule
returns-then-not-is_sound c = search unsound

-- BAD: the slot
pub returns-then-slot-ge4 : goal.returns-then-slot-ge4
unfolding work_rule
returns-then-slot-ge4 c = search no_slot

pub commit_when_sound-requires : goal.commit_when_sound-requires
unfolding work_rule
commit_when_sound-requires c = search (tables_told, slot_told)

pub returns : goal.returns
unfolding work_rule
returns c = search worked
