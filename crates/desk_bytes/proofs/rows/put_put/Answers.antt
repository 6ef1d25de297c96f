-- `put_put` meets its contract: path, size and hash. Assumes nothing.
use borrow.Author.Rules.{rules}
use Rattle.desk_bytes.specs.Layout.{put_bytes}
use Rattle.desk_bytes.proofs.OverLaws.{three_parts}
use Rattle.desk_bytes.proofs.rows.put_put.Goals as goal

pub returns : goal.returns
unfolding put_bytes
returns c = (search rules, search three_parts)
