-- `revoke::none_dropped` meets its contract: the refusal, and no row. Assumes nothing.
use Rattle.tokens.proofs.RevokeLaws.{drops_none}
use Rattle.tokens.proofs.revoke.none_dropped.Goals as goal

pub returns : goal.returns
returns c = search drops_none
