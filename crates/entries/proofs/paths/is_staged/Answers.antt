-- A put was found, or none.
use Rattle.entries.proofs.PathLaws.{given-paths}
use Rattle.entries.proofs.paths.is_staged.Goals as goal

pub returns-in_default : goal.returns-in_default
returns-in_default c = search given-paths

pub returns : goal.returns
returns c = search given-paths
