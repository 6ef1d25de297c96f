-- `early::early_token` meets its contract: there is no row of the token, or it is the first one. Assumes nothing.
use Rattle.first_checks.specs.Early.{early_token}
use Rattle.first_checks.proofs.EarlyLaws.{early_token_none, early_token_at}
use Rattle.first_checks.proofs.early.early_token.Goals as goal

-- NO_TOKEN
pub returns-in_default : goal.returns-in_default
unfolding early_token
returns-in_default c = search early_token_none

pub returns : goal.returns
unfolding early_token
returns c = search early_token_at
