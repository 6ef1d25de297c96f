-- `put_relay` meets its contract: number, capacity and bytes used, the shards held, and the last heartbeat. Assumes nothing.
use borrow.Author.Rules.{rules}
use Rattle.desk_bytes.specs.Layout.{relay_bytes}
use Rattle.desk_bytes.proofs.OverLaws.{three_parts}
use Rattle.desk_bytes.proofs.rows.put_relay.Goals as goal

pub returns : goal.returns
unfolding relay_bytes
returns c = (search rules, search three_parts)
