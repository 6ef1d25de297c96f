-- `paths::path_in` meets its contract. Assumes nothing.
use Rattle.kept_entries.specs.KeptEntryLaws.{path_there}
use Rattle.kept_entries.proofs.paths.path_in.Goals as goal

pub returns : goal.returns
returns c = search path_there
