-- `put_volume` meets its contract: two groups of fields. Assumes nothing.
use borrow.Author.Rules.{rules}
use Rattle.desk_bytes.specs.Layout.{volume_bytes}
use Rattle.desk_bytes.proofs.OverLaws.{two_parts}
use Rattle.desk_bytes.proofs.rows.put_volume.Goals as goal

pub returns : goal.returns
unfolding volume_bytes
returns c = (search rules, search two_parts)
