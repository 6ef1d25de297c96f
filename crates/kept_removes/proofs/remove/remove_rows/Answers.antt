-- `remove::remove_rows` meets its contract: each return is a check of the rule. Assumes nothing.
use Rattle.lists.specs.AnswerLaws.{in_table}
use Rattle.kept_removes.proofs.RemoveLaws.{answers}
use Rattle.kept_removes.proofs.remove.remove_rows.Goals as goal

-- BAD
pub returns-then-not-is_path : goal.returns-then-not-is_path
returns-then-not-is_path c = search answers

-- NO_VOLUME
pub returns-in_default : goal.returns-in_default
returns-in_default c = search answers

pub offset_bounds-volumes-i : goal.offset_bounds-volumes-i
offset_bounds-volumes-i c = search in_table

pub bounds-volumes-i : goal.bounds-volumes-i
bounds-volumes-i c = search in_table

pub remove_in-requires : goal.remove_in-requires
remove_in-requires c = search in_table

pub returns : goal.returns
returns c = search answers
