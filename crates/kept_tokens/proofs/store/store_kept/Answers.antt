-- `store::store_kept` meets its contract: the rows as they are, or with the new one. Assumes nothing.
use Rattle.lists.specs.AnswerLaws.{in_table}
use Rattle.tokens.specs.FoundLaws.{place_in, place_fits}
use Rattle.kept_tokens.proofs.CallLaws.{store_none, store_row}
use Rattle.kept_tokens.proofs.store.store_kept.Goals as goal

-- no new token
pub returns-then-not-o : goal.returns-then-not-o
returns-then-not-o c = search store_none

pub offset_bounds-tokens-i : goal.offset_bounds-tokens-i
offset_bounds-tokens-i c = search (place_fits, in_table)

pub bounds-tokens-i : goal.bounds-tokens-i
bounds-tokens-i c = search (place_in, in_table)

pub returns : goal.returns
returns c = search store_row
