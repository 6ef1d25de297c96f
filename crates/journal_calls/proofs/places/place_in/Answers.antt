-- `place_in` meets its contract: a place past the end is 0. Assumes nothing.
use Rattle.journal_calls.proofs.PlaceLaws.{byte-places}
use Rattle.journal_calls.proofs.places.place_in.Goals as goal

pub returns-then-n-from : goal.returns-then-n-from
returns-then-n-from c = search byte-places

pub returns-then-n-from-lt2 : goal.returns-then-n-from-lt2
returns-then-n-from-lt2 c = search byte-places

pub returns-then-n-start : goal.returns-then-n-start
returns-then-n-start c = search byte-places

pub returns : goal.returns
returns c = search byte-places
