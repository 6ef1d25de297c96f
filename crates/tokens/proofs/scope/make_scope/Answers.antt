-- The prefix is kept whole.
use Rattle.tokens.proofs.ScopeLaws.{whole_scope}
use Rattle.tokens.proofs.scope.make_scope.Goals as goal

pub returns : goal.returns
returns c = search whole_scope
