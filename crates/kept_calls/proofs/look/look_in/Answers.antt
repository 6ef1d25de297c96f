-- `look_in` meets its contract: the row of its path, or none. Assumes nothing.
use Rattle.kept_calls.proofs.LookLaws.{entry_in_lem, entry_fits, entry_absent, entry_present}
use borrow.Author.Rules.{rules}
use Rattle.kept_calls.proofs.look.look_in.Goals as goal

-- no such row
pub returns-in_default : goal.returns-in_default
returns-in_default c t e f = search (entry_absent, rules)

pub offset_bounds-entries-i : goal.offset_bounds-entries-i
offset_bounds-entries-i c = search (entry_fits, rules)

pub bounds-entries-i : goal.bounds-entries-i
bounds-entries-i c = search (entry_in_lem, rules)

-- at the row
pub returns : goal.returns
returns c t e f = search (entry_present, rules)
