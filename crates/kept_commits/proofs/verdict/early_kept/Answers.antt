-- `verdict::early_kept` meets its contract: each return is that of its check. Assumes nothing.
use Rattle.lists.specs.AnswerLaws.{checks}
use Rattle.kept_commits.specs.Early.{early_at, early_row}
use Rattle.kept_commits.proofs.VerdictLaws.{volume_none, volume_at, token_none, token_at_lem}
use Rattle.kept_commits.proofs.verdict.early_kept.Goals as goal

-- NO_VOLUME
pub returns-in_default : goal.returns-in_default
unfolding early_row early_at
returns-in_default c = search (checks, volume_none)

-- NO_TOKEN
pub returns-then-not-there : goal.returns-then-not-there
unfolding early_row early_at
returns-then-not-there c = search (checks, volume_at, token_none)

pub returns : goal.returns
unfolding early_row early_at
returns c = search (checks, volume_at, token_at_lem)
