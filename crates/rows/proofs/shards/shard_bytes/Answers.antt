use Rattle.rows.specs.ShardBytes.{bytes_none, bytes_at_lem}
use Rattle.rows.proofs.shards.shard_bytes.Goals as goal

pub returns-in_default : goal.returns-in_default
returns-in_default c = search bytes_none

pub returns : goal.returns
returns c = search bytes_at_lem
