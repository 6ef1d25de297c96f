-- `commit::check_commit` meets its contract: what is read of the tables, then the checks by it. Assumes nothing.
use Rattle.commits.proofs.CheckLaws.{given_judged}
use Rattle.commits.proofs.commit.check_commit.Goals as goal

pub returns : goal.returns
returns c = search given_judged
