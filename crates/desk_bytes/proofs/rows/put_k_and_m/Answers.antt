-- `put_k_and_m` meets its contract: K and M. Assumes nothing.
use borrow.Author.Rules.{rules}
use Rattle.desk_bytes.proofs.OverLaws.{two_parts}
use Rattle.desk_bytes.proofs.rows.put_k_and_m.Goals as goal

pub returns : goal.returns
returns c = (search rules, search two_parts)
