-- `put_text` meets its contract: the bytes, and then the length. Assumes nothing.
use borrow.Author.Rules.{rules}
use Rattle.desk_bytes.specs.Layout.{text_bytes_all}
use Rattle.desk_bytes.proofs.OverLaws.{two_parts}
use Rattle.desk_bytes.proofs.parts.put_text.Goals as goal

pub returns : goal.returns
unfolding text_bytes_all
returns c = (search rules, search two_parts)
