-- `put_from_balance` meets its contract: balance and version, the epochs not paid, and the block of the delete. Assumes nothing.
use borrow.Author.Rules.{rules}
use Rattle.desk_bytes.proofs.OverLaws.{three_parts}
use Rattle.desk_bytes.proofs.rows.put_from_balance.Goals as goal

pub returns : goal.returns
returns c = (search rules, search three_parts)
