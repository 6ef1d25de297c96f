-- `attenuate::attenuate_at` meets its contract: a free row, where there is one, and the new token in it. Assumes nothing.
use Rattle.tokens.proofs.AttenuateLaws.{attenuate_stored}
use Rattle.tokens.proofs.attenuate.attenuate_at.Goals as goal

pub returns : goal.returns
returns c t n j e l q = search attenuate_stored
