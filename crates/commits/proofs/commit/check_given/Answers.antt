-- `commit::check_given` meets its contract: an idle slot, the limits, then the checks and the plan. Assumes nothing.
use Rattle.commits.specs.Verdicts.{passed_on}
use Rattle.commits.proofs.CheckLaws.{in_idle, in_entries, in_tokens, in_long, in_refused, in_passed}
use Rattle.commits.proofs.commit.check_given.Goals as goal

-- SESSION
pub returns-then-s-eq0 : goal.returns-then-s-eq0
returns-then-s-eq0 c es ts w l f h a b = search in_idle

-- BAD
pub returns-then-not-e : goal.returns-then-not-e
returns-then-not-e c es ts w l f h a b = search in_entries

-- BAD
pub returns-then-not-within : goal.returns-then-not-within
returns-then-not-within c es ts w l f h a b = search in_tokens

-- BAD
pub returns-then-f-gt8 : goal.returns-then-f-gt8
returns-then-f-gt8 c es ts w l f h a b = search in_long

pub returns-in_err-c : goal.returns-in_err-c
returns-in_err-c c es ts w l f h a b =
    let was = c.in_err-c.was in
    let out = passed_on _ _ c.from_residual.ensures.1 in
    search (in_refused, was, out)

pub returns : goal.returns
returns c es ts w l f h a b =
    let was = c.in_ok-c.was in
    search (in_passed, was)
