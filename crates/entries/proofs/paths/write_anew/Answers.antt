-- The text's bytes fit a text whole.
use Rattle.entries.proofs.PathLaws.{given-paths}
use Rattle.entries.proofs.paths.write_anew.Goals as goal

pub returns : goal.returns
returns c = search given-paths
