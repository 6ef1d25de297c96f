-- `put_volume_and_path` meets its contract: volume and path. Assumes nothing.
use borrow.Author.Rules.{rules}
use Rattle.desk_bytes.proofs.OverLaws.{two_parts}
use Rattle.desk_bytes.proofs.rows.put_volume_and_path.Goals as goal

pub returns : goal.returns
returns c = (search rules, search two_parts)
