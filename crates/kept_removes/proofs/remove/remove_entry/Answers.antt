-- `remove::remove_entry` meets its contract: each return is a check of the rule. Assumes nothing.
use Rattle.kept_removes.proofs.RemoveLaws.{entry-answers}
use Rattle.kept_removes.proofs.remove.remove_entry.Goals as goal

-- NO_ENTRY
pub returns-in_default : goal.returns-in_default
returns-in_default c = search entry-answers

-- SPENT
pub returns-then-v-ge4294967295 : goal.returns-then-v-ge4294967295
returns-then-v-ge4294967295 c = search entry-answers

pub returns : goal.returns
returns c = search entry-answers
