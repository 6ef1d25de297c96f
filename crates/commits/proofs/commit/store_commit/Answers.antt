-- `commit::store_commit` meets its contract: what can be stored is stored, and else nothing changes. Assumes nothing.
use Rattle.commits.proofs.StoreLaws.{store_none, store_done, store_volume, store_token, store_version, store_count, store_puts, store_tokens}
use Rattle.commits.proofs.commit.store_commit.Goals as goal

-- BAD
pub returns-then-not-can_store : goal.returns-then-not-can_store
returns-then-not-can_store c = search store_none

pub store-requires : goal.store-requires
store-requires c = (search store_volume, search store_token, search store_version, search store_count, search store_puts, search store_tokens)

pub returns : goal.returns
returns c = search store_done
