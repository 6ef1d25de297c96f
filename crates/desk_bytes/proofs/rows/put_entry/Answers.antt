-- `put_entry` meets its contract: volume, path, size and hash, and then the placement. Assumes nothing.
use borrow.Author.Rules.{rules}
use Rattle.desk_bytes.specs.Layout.{entry_bytes}
use Rattle.desk_bytes.proofs.OverLaws.{two_parts}
use Rattle.desk_bytes.proofs.rows.put_entry.Goals as goal

pub returns : goal.returns
unfolding entry_bytes
returns c = (search rules, search two_parts)
