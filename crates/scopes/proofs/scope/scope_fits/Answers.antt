-- `scope::scope_fits` meets its contract: its three parts in order. Assumes nothing.
use Rattle.lists.specs.AnswerLaws.{checks}
use Rattle.scopes.proofs.scope.scope_fits.Goals as goal

pub returns-then-not-is_prefix : goal.returns-then-not-is_prefix
returns-then-not-is_prefix c = search checks

pub returns-then-not-cap_fits : goal.returns-then-not-cap_fits
returns-then-not-cap_fits c = search checks

pub returns : goal.returns
returns c = search checks
