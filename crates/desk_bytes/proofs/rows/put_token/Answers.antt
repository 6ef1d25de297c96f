-- `put_token` meets its contract: the three numbers, the scope, and the bytes used. Assumes nothing.
use borrow.Author.Rules.{rules}
use Rattle.desk_bytes.specs.Layout.{token_bytes}
use Rattle.desk_bytes.proofs.OverLaws.{three_parts}
use Rattle.desk_bytes.proofs.rows.put_token.Goals as goal

pub returns : goal.returns
unfolding token_bytes
returns c = (search rules, search three_parts)
