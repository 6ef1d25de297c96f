-- `attenuate::attenuate_row` meets its contract: its scope, then the row of its parent. Assumes nothing.
use Rattle.rules.specs.Scope.{scope_fits}
use Rattle.tokens.specs.Rows.{attenuate_found}
use Rattle.lists.specs.AnswerLaws.{checks}
use Rattle.tokens.proofs.NewTokenLaws.{refused_new, refused_prefix}
use Rattle.tokens.proofs.AttenuateLaws.{attenuate_none, attenuate_at}
use borrow.Author.Rules.{rules}
use Rattle.tokens.proofs.attenuate.attenuate_row.Goals as goal

-- BAD
pub returns-then-not-scope_fits : goal.returns-then-not-scope_fits
unfolding attenuate_found scope_fits
returns-then-not-scope_fits c = (λ t i old e f. search (checks, refused_new), search refused_prefix)

-- NO_TOKEN
pub returns-then-not-there : goal.returns-then-not-there
unfolding attenuate_found scope_fits
returns-then-not-there c = (λ t i old e f. search (checks, attenuate_none, refused_new), search refused_prefix)

-- by the parent
pub returns : goal.returns
unfolding attenuate_found scope_fits
returns c = (λ t i old e f. search (checks, attenuate_at), search rules)
