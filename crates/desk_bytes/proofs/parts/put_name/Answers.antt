-- `put_name` meets its contract: the bytes, and then the length. Assumes nothing.
use borrow.Author.Rules.{rules}
use Rattle.desk_bytes.specs.Layout.{name_bytes_all}
use Rattle.desk_bytes.proofs.OverLaws.{two_parts}
use Rattle.desk_bytes.proofs.parts.put_name.Goals as goal

pub returns : goal.returns
unfolding name_bytes_all
returns c = (search rules, search two_parts)
