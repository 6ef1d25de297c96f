-- `grant::grant_in` meets its contract: its checks in order. Assumes nothing.
use Rattle.rules.specs.TokenCalls.{grant_in}
use Rattle.lists.specs.AnswerLaws.{checks}
use Rattle.tokens.proofs.NewTokenLaws.{refused_new, token_told, refused_prefix, new_prefix}
use Rattle.tokens.proofs.grant.grant_in.Goals as goal

-- NOT_OWNER
pub returns-then-not-owned_by : goal.returns-then-not-owned_by
unfolding grant_in
returns-then-not-owned_by c = (λ t i old e f. search (checks, refused_new), search refused_prefix)

-- STATE
pub returns-then-not-is_open : goal.returns-then-not-is_open
unfolding grant_in
returns-then-not-is_open c = (λ t i old e f. search (checks, refused_new), search refused_prefix)

-- a new token
pub returns : goal.returns
unfolding grant_in
returns c = (λ t i old e f. search (checks, token_told), search new_prefix)
