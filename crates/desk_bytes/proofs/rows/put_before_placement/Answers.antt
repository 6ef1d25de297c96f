-- `put_before_placement` meets its contract: volume and path, the size, and the hash. Assumes nothing.
use borrow.Author.Rules.{rules}
use Rattle.desk_bytes.proofs.OverLaws.{three_parts}
use Rattle.desk_bytes.proofs.rows.put_before_placement.Goals as goal

pub returns : goal.returns
returns c = (search rules, search three_parts)
