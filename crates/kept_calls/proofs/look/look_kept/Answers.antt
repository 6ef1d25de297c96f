-- `look_kept` meets its contract: the row of its token, where there is one. Assumes nothing.
use Rattle.kept_calls.proofs.LookLaws.{look_found_lem}
use Rattle.kept_calls.proofs.look.look_kept.Goals as goal

pub returns : goal.returns
returns c t e q f = search look_found_lem
