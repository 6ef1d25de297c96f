-- `commit::store` meets its contract: what each function made is what the rule stores. Assumes nothing.
use Rattle.commits.proofs.CommitLaws.{stores_none, charges_staged, gives_none}
use Rattle.commits.proofs.commit.store.Goals as goal

pub returns-then-replaces : goal.returns-then-replaces
returns-then-replaces c = record { answer = search; newer = search; stored = search; charges = search charges_staged; lighter = search; freed = search }

-- no puts
pub returns-then-s-ne0 : goal.returns-then-s-ne0
returns-then-s-ne0 c = record { answer = search; newer = search; stored = search; charges = search charges_staged; lighter = search gives_none; freed = search }

pub returns-else-s-ne0 : goal.returns-else-s-ne0
returns-else-s-ne0 c = record { answer = search; newer = search; stored = search stores_none; charges = search charges_staged; lighter = search gives_none; freed = search }
