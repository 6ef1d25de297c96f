-- `put_last` meets its contract: the three last numbers, and the deposits. Assumes nothing.
use borrow.Author.Rules.{rules}
use Rattle.desk_bytes.proofs.OverLaws.{two_parts}
use Rattle.desk_bytes.proofs.desk.put_last.Goals as goal

pub returns : goal.returns
returns c = (search rules, search two_parts)
