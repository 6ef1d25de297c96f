-- `held::place_set` meets its contract: no two relays have the number, so that one row is the set. Assumes nothing.
use Rattle.soundness.proofs.HeldLaws.{slots, zero_set, quick_set, absent_set, none_set, found_set}
use Rattle.soundness.proofs.held.place_set.Goals as goal

pub returns-then-n-eq0 : goal.returns-then-n-eq0
returns-then-n-eq0 c = search zero_set

pub returns-then-x-from : goal.returns-then-x-from
returns-then-x-from c = search quick_set

pub returns-then-x-from-2 : goal.returns-then-x-from-2
returns-then-x-from-2 c = search absent_set

pub returns-in_default : goal.returns-in_default
returns-in_default c = search none_set

pub overflow_cast-result-2 : goal.overflow_cast-result-2
overflow_cast-result-2 c = search slots

pub overflow_shl-result-2 : goal.overflow_shl-result-2
overflow_shl-result-2 c = search slots

pub returns : goal.returns
returns c = search found_set
