-- `put_desk` meets its contract: the tables, and then the slots. Assumes nothing.
use borrow.Author.Rules.{rules}
use Rattle.desk_bytes.specs.Layout.{desk_bytes}
use Rattle.desk_bytes.proofs.OverLaws.{two_parts}
use Rattle.desk_bytes.proofs.desk.put_desk.Goals as goal

pub returns : goal.returns
unfolding desk_bytes
returns c = (search rules, search two_parts)
