-- `room::give_back_entry` meets its contract: a free row gives nothing back, another what its shards take. Assumes nothing.
use Rattle.placing.specs.GiveLaws.{entry_free, entry_used}
use Rattle.placing.proofs.room.give_back_entry.Goals as goal

pub returns-then-e-eq0 : goal.returns-then-e-eq0
returns-then-e-eq0 c = search entry_free

pub returns : goal.returns
returns c = search entry_used
