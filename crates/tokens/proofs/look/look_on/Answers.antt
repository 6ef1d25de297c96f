-- `look::look_on` meets its contract: the row of its token, where there is one. Assumes nothing.
use Rattle.lists.specs.AnswerLaws.{in_table}
use Rattle.tokens.proofs.LookLaws.{look_told}
use Rattle.tokens.specs.FoundLaws.{place_in, place_fits}
use Rattle.tokens.proofs.look.look_on.Goals as goal

pub offset_bounds-rows-i : goal.offset_bounds-rows-i
offset_bounds-rows-i c = search (place_fits, in_table)

pub bounds-rows-i : goal.bounds-rows-i
bounds-rows-i c = search (place_in, in_table)

pub returns : goal.returns
returns c = search look_told
