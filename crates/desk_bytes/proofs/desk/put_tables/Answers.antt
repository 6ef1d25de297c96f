-- `put_tables` meets its contract: what stands before the tokens, and the rest. Assumes nothing.
use borrow.Author.Rules.{rules}
use Rattle.desk_bytes.specs.Layout.{tables_bytes}
use Rattle.desk_bytes.proofs.OverLaws.{two_parts}
use Rattle.desk_bytes.proofs.desk.put_tables.Goals as goal

pub returns : goal.returns
unfolding tables_bytes
returns c = (search rules, search two_parts)
