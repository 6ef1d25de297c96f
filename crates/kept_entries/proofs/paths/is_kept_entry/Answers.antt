-- `paths::is_kept_entry` meets its contract: the entry is this volume's, and its bytes are the path. Assumes nothing.
use Rattle.kept_entries.specs.KeptEntryLaws.{tells}
use Rattle.kept_entries.proofs.paths.is_kept_entry.Goals as goal

-- of another volume
pub returns-then-not-is_number : goal.returns-then-not-is_number
returns-then-not-is_number c = search tells

pub returns : goal.returns
returns c = search tells
