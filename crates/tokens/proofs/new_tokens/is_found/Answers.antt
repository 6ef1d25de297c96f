-- `new_tokens::is_found` meets its contract: a row was found, or none. Assumes nothing.
use Rattle.tokens.proofs.NewTokenLaws.{found_none, found_some}
use Rattle.tokens.proofs.new_tokens.is_found.Goals as goal

pub returns-in_default : goal.returns-in_default
returns-in_default c = search found_none

pub returns : goal.returns
returns c = search found_some
