-- `scope::narrows` meets its contract: its five parts in order. Assumes nothing.
use Rattle.rules.specs.Scope.{narrows}
use Rattle.lists.specs.AnswerLaws.{used, all_5}
use Rattle.scopes.proofs.scope.narrows.Goals as goal

pub returns : goal.returns
unfolding narrows
returns c = search (all_5, used)
