-- `early::early_refusal` meets its contract: each return is that of its check. Assumes nothing.
use Rattle.lists.specs.AnswerLaws.{checks}
use Rattle.first_checks.specs.Early.{early_volume, early_number}
use Rattle.first_checks.proofs.EarlyLaws.{early_volume_none, early_volume_at}
use Rattle.first_checks.proofs.early.early_refusal.Goals as goal

-- NO_VOLUME
pub returns-in_default : goal.returns-in_default
unfolding early_number early_volume
returns-in_default c = search (checks, early_volume_none)

pub returns : goal.returns
unfolding early_number early_volume
returns c = search (checks, early_volume_at)
