-- `put_mode` meets its contract: the number of the mode. Assumes nothing.
use borrow.Author.Rules.{rules}
use Rattle.desk_bytes.proofs.OverLaws.{number_is}
use Rattle.desk_bytes.proofs.parts.put_mode.Goals as goal

pub returns : goal.returns
returns c = (search rules, search number_is)
