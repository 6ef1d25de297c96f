-- `grant::grant_on` meets its contract: a free row, where there is one, and the new token in it. Assumes nothing.
use Rattle.tokens.proofs.GrantLaws.{grant_stored}
use Rattle.tokens.proofs.grant.grant_on.Goals as goal

pub returns : goal.returns
returns c = search grant_stored
