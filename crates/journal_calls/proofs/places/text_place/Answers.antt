-- `text_place` meets its contract: the text stands at the place of its first byte. Assumes nothing.
use Rattle.journal_calls.proofs.PlaceLaws.{text_placed}
use Rattle.journal_calls.proofs.places.text_place.Goals as goal

pub returns : goal.returns
returns c = search text_placed
