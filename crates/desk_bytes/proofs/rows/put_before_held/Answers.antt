-- `put_before_held` meets its contract: number, capacity and bytes used. Assumes nothing.
use borrow.Author.Rules.{rules}
use Rattle.desk_bytes.proofs.OverLaws.{three_parts}
use Rattle.desk_bytes.proofs.rows.put_before_held.Goals as goal

pub returns : goal.returns
returns c = (search rules, search three_parts)
