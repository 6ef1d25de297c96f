-- `put_before_tokens` meets its contract: clock and rate, the volumes, and the entries. Assumes nothing.
use borrow.Author.Rules.{rules}
use Rattle.desk_bytes.proofs.OverLaws.{three_parts}
use Rattle.desk_bytes.proofs.desk.put_before_tokens.Goals as goal

pub returns : goal.returns
returns c = (search rules, search three_parts)
