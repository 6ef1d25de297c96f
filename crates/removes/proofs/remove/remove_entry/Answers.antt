-- `remove::remove_entry` meets its contract: each return is a check of the rule. Assumes nothing.
use Rattle.rules.specs.VolumeCalls.{remove_entry}
use Rattle.rules.specs.Tables.{entry_of}
use Rattle.lists.specs.AnswerLaws.{checks}
use Rattle.removes.proofs.RemoveLaws.{entry_none, entry_at}
use Rattle.removes.proofs.remove.remove_entry.Goals as goal

-- NO_ENTRY
pub returns-in_default : goal.returns-in_default
unfolding remove_entry entry_of
returns-in_default c = search (checks, entry_none)

-- SPENT
pub returns-then-v-ge4294967295 : goal.returns-then-v-ge4294967295
unfolding remove_entry entry_of
returns-then-v-ge4294967295 c = search (checks, entry_at)

pub returns : goal.returns
unfolding remove_entry entry_of
returns c = search (checks, entry_at)
