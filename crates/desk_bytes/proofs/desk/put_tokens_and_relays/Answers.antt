-- `put_tokens_and_relays` meets its contract: tokens and relays. Assumes nothing.
use borrow.Author.Rules.{rules}
use Rattle.desk_bytes.proofs.OverLaws.{two_parts}
use Rattle.desk_bytes.proofs.desk.put_tokens_and_relays.Goals as goal

pub returns : goal.returns
returns c = (search rules, search two_parts)
