-- `new_tokens::not_stored` meets its contract: a refusal, and a fresh row beside it. Assumes nothing.
use Rattle.tokens.proofs.NewTokenLaws.{none_stored}
use Rattle.tokens.proofs.new_tokens.not_stored.Goals as goal

pub returns : goal.returns
returns c = search none_stored
