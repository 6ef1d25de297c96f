-- `put_three` meets its contract: one number after another. Assumes nothing.
use borrow.Author.Rules.{rules}
use Rattle.desk_bytes.proofs.OverLaws.{three_parts}
use Rattle.desk_bytes.proofs.parts.put_three.Goals as goal

pub returns : goal.returns
returns c = (search rules, search three_parts)
