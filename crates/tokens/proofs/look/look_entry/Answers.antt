-- `look::look_entry` meets its contract: the entry, where it was found. Assumes nothing.
use Rattle.tokens.proofs.LookLaws.{entry_none, entry_at}
use Rattle.tokens.proofs.look.look_entry.Goals as goal

-- NO_ENTRY
pub returns-then-not-found : goal.returns-then-not-found
returns-then-not-found c t j = search entry_none

-- success
pub returns : goal.returns
returns c t j = search entry_at
