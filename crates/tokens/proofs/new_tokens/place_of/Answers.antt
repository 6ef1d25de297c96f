-- `new_tokens::place_of` meets its contract: the index that was found, or 0. Assumes nothing.
use Rattle.tokens.proofs.NewTokenLaws.{place_none, place_some}
use Rattle.tokens.proofs.new_tokens.place_of.Goals as goal

pub returns-in_default : goal.returns-in_default
returns-in_default c = search place_none

pub returns : goal.returns
returns c = search place_some
