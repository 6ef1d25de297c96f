use Rattle.sound_rows.proofs.NumberLaws.{token_rows_lem, tokens_clash, tokens_hold}
use Rattle.sound_rows.proofs.token_test.sound_tokens.Goals as goal

pub returns-then-not-numbers_differ : goal.returns-then-not-numbers_differ
returns-then-not-numbers_differ c = search tokens_clash

pub returns-then-not-sound_token : goal.returns-then-not-sound_token
returns-then-not-sound_token c = search token_rows_lem

pub loop-i-preserved : goal.loop-i-preserved
loop-i-preserved c = search token_rows_lem

pub returns : goal.returns
returns c = search tokens_hold
