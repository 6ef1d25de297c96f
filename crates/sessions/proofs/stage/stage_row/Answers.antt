-- `stage_row` meets its contract: each return is that of its check, and the last that of the token. Assumes nothing.
use Rattle.lists.specs.AnswerLaws.{checks}
use Rattle.sessions.proofs.RowAnswers.{refuses, stage_none, stage_at_lem}
use Rattle.sessions.specs.Rows.{stage_found}
use Rattle.sessions.proofs.stage.stage_row.Goals as goal

-- BAD
pub returns-then-not-stage_fits : goal.returns-then-not-stage_fits
unfolding stage_found
returns-then-not-stage_fits c t = search (checks, refuses)

-- SESSION
pub returns-then-s-eq0 : goal.returns-then-s-eq0
unfolding stage_found
returns-then-s-eq0 c t = search (checks, refuses)

-- NO_TOKEN
pub returns-then-not-there : goal.returns-then-not-there
unfolding stage_found
returns-then-not-there c t = search (checks, stage_none)

-- by the token
pub returns : goal.returns
unfolding stage_found
returns c t = search (checks, stage_at_lem)
