-- `room::bare_entry` meets its contract. Assumes nothing.
use Rattle.kept_entries.proofs.GiveLaws.{bare_made}
use Rattle.kept_entries.proofs.room.bare_entry.Goals as goal

pub returns : goal.returns
returns c = search bare_made
