-- `remove::remove_on` meets its contract: each return is a check of the rule. Assumes nothing.
use Rattle.rules.specs.VolumeCalls.{remove_rule, remove_in}
use Rattle.rules.specs.Tables.{volume_of}
use Rattle.lists.specs.AnswerLaws.{checks, in_table}
use Rattle.removes.proofs.RemoveLaws.{remove_none, remove_at}
use Rattle.removes.proofs.remove.remove_on.Goals as goal

-- BAD
pub returns-then-not-is_path : goal.returns-then-not-is_path
unfolding remove_rule remove_in volume_of
returns-then-not-is_path c = search checks

-- NO_VOLUME
pub returns-in_default : goal.returns-in_default
unfolding remove_rule remove_in volume_of
returns-in_default c = search (checks, remove_none)

pub offset_bounds-rows-i : goal.offset_bounds-rows-i
offset_bounds-rows-i c = search in_table

pub bounds-rows-i : goal.bounds-rows-i
bounds-rows-i c = search in_table

pub remove_in-requires : goal.remove_in-requires
unfolding remove_rule remove_in volume_of
remove_in-requires c = search in_table

pub returns : goal.returns
unfolding remove_rule remove_in volume_of
returns c = search (checks, remove_at)
