-- `put_session` meets its contract: the three numbers, the count, and the puts. Assumes nothing.
use borrow.Author.Rules.{rules}
use Rattle.desk_bytes.specs.Layout.{session_bytes}
use Rattle.desk_bytes.proofs.OverLaws.{three_parts}
use Rattle.desk_bytes.proofs.rows.put_session.Goals as goal

pub returns : goal.returns
unfolding session_bytes
returns c = (search rules, search three_parts)
