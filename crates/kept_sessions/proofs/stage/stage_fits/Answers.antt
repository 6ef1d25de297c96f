-- `stage_fits` meets its contract: the path is the bytes at its place. Assumes nothing.
use Rattle.kept_sessions.proofs.KeptAnswers.{fits_at}
use Rattle.kept_sessions.proofs.stage.stage_fits.Goals as goal

pub returns : goal.returns
returns c = search fits_at
