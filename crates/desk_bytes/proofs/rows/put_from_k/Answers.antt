-- `put_from_k` meets its contract: K and M, the cap and the status. Assumes nothing.
use borrow.Author.Rules.{rules}
use Rattle.desk_bytes.proofs.OverLaws.{three_parts}
use Rattle.desk_bytes.proofs.rows.put_from_k.Goals as goal

pub returns : goal.returns
returns c = (search rules, search three_parts)
