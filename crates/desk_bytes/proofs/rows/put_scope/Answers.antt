-- `put_scope` meets its contract: prefix, mode and cap, and the two ends of the window. Assumes nothing.
use borrow.Author.Rules.{rules}
use Rattle.desk_bytes.specs.Layout.{scope_bytes}
use Rattle.desk_bytes.proofs.OverLaws.{three_parts}
use Rattle.desk_bytes.proofs.rows.put_scope.Goals as goal

pub returns : goal.returns
unfolding scope_bytes
returns c = (search rules, search three_parts)
