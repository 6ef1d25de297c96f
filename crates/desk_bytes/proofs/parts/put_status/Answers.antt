-- `put_status` meets its contract: the number of the status. Assumes nothing.
use borrow.Author.Rules.{rules}
use Rattle.desk_bytes.proofs.OverLaws.{number_is}
use Rattle.desk_bytes.proofs.parts.put_status.Goals as goal

pub returns : goal.returns
returns c = (search rules, search number_is)
