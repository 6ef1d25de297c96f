-- `new_tokens::new_token` meets its contract: the next number, where there is one, and a free row. Assumes nothing.
use Rattle.tokens.proofs.NewTokenLaws.{token_spent, token_no_room, token_next, refused_scope, new_scope}
use Rattle.tokens.proofs.new_tokens.new_token.Goals as goal

-- SPENT
pub returns-then-last-ge65535 : goal.returns-then-last-ge65535
returns-then-last-ge65535 c = (λ t i old e f. search token_spent, search refused_scope)

-- ROOM
pub returns-then-not-free : goal.returns-then-not-free
returns-then-not-free c = (λ t i old e f. search token_no_room, search refused_scope)

-- success
pub returns : goal.returns
returns c = (λ t i old e f. search token_next, search new_scope)
