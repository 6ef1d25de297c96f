-- `commit::commit_on` meets its contract: the checks, then what is stored. Assumes nothing.
use Rattle.commits.proofs.CheckLaws.{verdict_refused, verdict_stored}
use Rattle.commits.proofs.commit.commit_on.Goals as goal

pub returns-in-Err : goal.returns-in-Err
returns-in-Err c = search verdict_refused

pub returns-in-Ok : goal.returns-in-Ok
returns-in-Ok c = search verdict_stored
