-- `store::store` meets its contract: what each function made is what the rule stores. Assumes nothing.
use Rattle.kept_commits.proofs.KeepLaws.{keeps_none, gives_kept, gives_none, keeps_freed}
use Rattle.kept_commits.proofs.store.store.Goals as goal

pub returns-then-replaces : goal.returns-then-replaces
returns-then-replaces c = record {
  answer = search;
  newer = search;
  stored = search;
  charges = search;
  lighter = search gives_kept;
  freed = search keeps_freed;
}

-- no puts
pub returns-then-s-ne0 : goal.returns-then-s-ne0
returns-then-s-ne0 c = record {
  answer = search;
  newer = search;
  stored = search;
  charges = search;
  lighter = search gives_none;
  freed = search keeps_freed;
}

pub returns-else-s-ne0 : goal.returns-else-s-ne0
returns-else-s-ne0 c = record {
  answer = search;
  newer = search;
  stored = search keeps_none;
  charges = search;
  lighter = search gives_none;
  freed = search keeps_freed;
}
