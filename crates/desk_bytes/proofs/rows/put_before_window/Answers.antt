-- `put_before_window` meets its contract: prefix, mode and cap. Assumes nothing.
use borrow.Author.Rules.{rules}
use Rattle.desk_bytes.proofs.OverLaws.{three_parts}
use Rattle.desk_bytes.proofs.rows.put_before_window.Goals as goal

pub returns : goal.returns
returns c = (search rules, search three_parts)
