use Rattle.rows.specs.SetLaws.{past_last}
use Rattle.rows.proofs.sets.in_set.Goals as goal

pub returns-then-i-gt31 : goal.returns-then-i-gt31
returns-then-i-gt31 c = search past_last
