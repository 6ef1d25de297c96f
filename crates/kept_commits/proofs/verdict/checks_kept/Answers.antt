-- `verdict::checks_kept` meets its contract: what is read of the tables, then the checks by it. Assumes nothing.
use Rattle.kept_commits.proofs.VerdictLaws.{given_kept}
use Rattle.kept_commits.proofs.verdict.checks_kept.Goals as goal

pub returns : goal.returns
returns c = search given_kept
