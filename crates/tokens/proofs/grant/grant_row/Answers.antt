-- `grant::grant_row` meets its contract: its scope, then the row of its volume. Assumes nothing.
use Rattle.rules.specs.Scope.{scope_fits}
use Rattle.rules.specs.TokenCalls.{grant_rule}
use Rattle.rules.specs.Tables.{volume_of}
use Rattle.lists.specs.AnswerLaws.{checks, in_table}
use Rattle.tokens.proofs.NewTokenLaws.{refused_new, refused_prefix}
use Rattle.tokens.proofs.GrantLaws.{grant_none, grant_at}
use borrow.Author.Rules.{rules}
use Rattle.tokens.proofs.grant.grant_row.Goals as goal

-- BAD
pub returns-then-not-scope_fits : goal.returns-then-not-scope_fits
unfolding grant_rule scope_fits volume_of
returns-then-not-scope_fits c = (λ t i old v e f. search (checks, refused_new), search refused_prefix)

-- NO_VOLUME
pub returns-in_default : goal.returns-in_default
unfolding grant_rule scope_fits volume_of
returns-in_default c = (λ t i old v e f. search (checks, grant_none, refused_new), search refused_prefix)

pub offset_bounds-volumes-j : goal.offset_bounds-volumes-j
offset_bounds-volumes-j c = search in_table

pub bounds-volumes-j : goal.bounds-volumes-j
bounds-volumes-j c = search in_table

-- by the volume
pub returns : goal.returns
unfolding grant_rule scope_fits volume_of
returns c = (λ t i old v e f. search (checks, grant_at), search rules)
