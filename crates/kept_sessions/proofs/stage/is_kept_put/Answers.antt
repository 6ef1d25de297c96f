-- `is_kept_put` meets its contract: the bytes of its text are compared where they stand. Assumes nothing.
use Rattle.rules.specs.Tables.{is_put}
use Rattle.kept_sessions.specs.Parts.{is_kept_put}
use Rattle.kept_sessions.proofs.KeptAnswers.{same_path_lem}
use Rattle.kept_sessions.proofs.stage.is_kept_put.Goals as goal

pub returns : goal.returns
unfolding is_put is_kept_put
returns c = search same_path_lem
