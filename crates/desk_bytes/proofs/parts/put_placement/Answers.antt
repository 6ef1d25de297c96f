-- `put_placement` meets its contract: the relay numbers, and then the length. Assumes nothing.
use borrow.Author.Rules.{rules}
use Rattle.desk_bytes.specs.Layout.{placement_bytes}
use Rattle.desk_bytes.proofs.OverLaws.{two_parts}
use Rattle.desk_bytes.proofs.parts.put_placement.Goals as goal

pub returns : goal.returns
unfolding placement_bytes
returns c = (search rules, search two_parts)
