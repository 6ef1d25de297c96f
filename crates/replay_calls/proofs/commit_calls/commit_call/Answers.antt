-- `commit_call` meets its contract: by the verdict. Assumes nothing.
use Rattle.replay_calls.proofs.DoneLaws.{commit_refused, commit_stored}
use Rattle.replay_calls.proofs.commit_calls.commit_call.Goals as goal

pub returns-in-Err : goal.returns-in-Err
returns-in-Err c = search commit_refused

pub returns-in-Ok : goal.returns-in-Ok
returns-in-Ok c = search commit_stored
