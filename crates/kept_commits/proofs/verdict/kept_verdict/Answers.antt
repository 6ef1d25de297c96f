-- `verdict::kept_verdict` meets its contract: the first checks, then all of them. Assumes nothing.
use Rattle.commits.specs.Verdicts.{passed_on}
use Rattle.kept_commits.proofs.VerdictLaws.{refuses_early, judges}
use Rattle.kept_commits.proofs.verdict.kept_verdict.Goals as goal

pub returns-in_err-early_kept : goal.returns-in_err-early_kept
returns-in_err-early_kept c t ec er ev ee et el =
    let was = c.in_err-early_kept.was in
    let out = passed_on _ _ c.from_residual.ensures.1 in
    search (refuses_early, was, out)

pub returns : goal.returns
returns c t ec er ev ee et el =
    let was = c.in_ok-early_kept.was in
    search (judges, was)
