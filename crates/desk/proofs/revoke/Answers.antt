-- `revoke` meets its contract: the desk is tested, then the call is worked on its tables. Assumes nothing.
use Rattle.rules.specs.Calls.{ask_rule}
use Rattle.desk.proofs.StepLaws.{unsound, asked}
use Rattle.desk.proofs.revoke.Goals as goal

-- BAD: the desk
pub returns-then-not-is_sound : goal.returns-then-not-is_sound
unfolding ask_rule
returns-then-not-is_sound c = search unsound

pub returns : goal.returns
unfolding ask_rule
returns c = search asked
