-- `put_from_tokens` meets its contract: tokens and relays, and then the last numbers and the deposits. Assumes nothing.
use borrow.Author.Rules.{rules}
use Rattle.desk_bytes.proofs.OverLaws.{two_parts}
use Rattle.desk_bytes.proofs.desk.put_from_tokens.Goals as goal

pub returns : goal.returns
returns c = (search rules, search two_parts)
