-- `stage_token` keeps a path that is one whole, and refuses one that is not.
use Rattle.kept_sessions.proofs.KeptAnswers.{stage_apart, stage_under}
use Rattle.kept_sessions.proofs.stage.stage_token.Goals as goal

pub returns-then-not-covers : goal.returns-then-not-covers
returns-then-not-covers c t = search stage_apart

pub returns : goal.returns
returns c t = search stage_under
