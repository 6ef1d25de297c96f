-- `pass_call` meets its contract: by the lists of the kept entries. Assumes nothing.
use Rattle.replay_calls.proofs.DoneLaws.{passes_on}
use Rattle.replay_calls.proofs.advances.pass_call.Goals as goal

pub returns : goal.returns
returns c = search passes_on
