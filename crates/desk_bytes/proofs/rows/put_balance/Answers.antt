-- `put_balance` meets its contract: balance and version. Assumes nothing.
use borrow.Author.Rules.{rules}
use Rattle.desk_bytes.proofs.OverLaws.{two_parts}
use Rattle.desk_bytes.proofs.rows.put_balance.Goals as goal

pub returns : goal.returns
returns c = (search rules, search two_parts)
