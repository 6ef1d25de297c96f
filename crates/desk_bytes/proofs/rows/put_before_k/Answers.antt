-- `put_before_k` meets its contract: number, owner and name. Assumes nothing.
use borrow.Author.Rules.{rules}
use Rattle.desk_bytes.proofs.OverLaws.{three_parts}
use Rattle.desk_bytes.proofs.rows.put_before_k.Goals as goal

pub returns : goal.returns
returns c = (search rules, search three_parts)
