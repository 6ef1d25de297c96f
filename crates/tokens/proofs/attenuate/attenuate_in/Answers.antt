-- `attenuate::attenuate_in` meets its contract: its checks in order. Assumes nothing.
use Rattle.tokens.specs.Rows.{attenuate_deep}
use Rattle.lists.specs.AnswerLaws.{checks}
use Rattle.tokens.proofs.NewTokenLaws.{refused_new, token_told, refused_prefix, new_prefix}
use Rattle.tokens.proofs.attenuate.attenuate_in.Goals as goal

-- WIDENS
pub returns-then-not-narrows : goal.returns-then-not-narrows
unfolding attenuate_deep
returns-then-not-narrows c = (λ t i old e f. search (checks, refused_new), search refused_prefix)

-- DEEP
pub returns-then-deep-ge8 : goal.returns-then-deep-ge8
unfolding attenuate_deep
returns-then-deep-ge8 c = (λ t i old e f. search (checks, refused_new), search refused_prefix)

-- a new token
pub returns : goal.returns
unfolding attenuate_deep
returns c = (λ t i old e f. search (checks, token_told), search new_prefix)
