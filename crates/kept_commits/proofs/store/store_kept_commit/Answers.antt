-- `store::store_kept_commit` meets its contract: what can be stored is stored, and else nothing changes. Assumes nothing.
use Rattle.kept_commits.proofs.KeepLaws.{keep_none, keep_done, keep_volume, keep_token, keep_version, keep_count, keep_puts, keep_tokens}
use Rattle.kept_commits.proofs.store.store_kept_commit.Goals as goal

-- BAD
pub returns-then-not-can_keep : goal.returns-then-not-can_keep
returns-then-not-can_keep c t ev ee et el = search keep_none

pub store-requires : goal.store-requires
store-requires c = (search keep_volume, search keep_token, search keep_version, search keep_count, search keep_puts, search keep_tokens)

pub returns : goal.returns
returns c t ev ee et el = search keep_done
