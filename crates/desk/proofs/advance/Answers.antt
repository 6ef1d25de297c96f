-- `advance` meets its contract: the desk is tested, then the call is worked on its tables. Assumes nothing.
use Rattle.rules.specs.Calls.{ask_rule}
use Rattle.desk.proofs.StepLaws.{unsound, asked, tables_told}
use Rattle.desk.proofs.advance.Goals as goal

-- BAD: the desk
pub returns-then-not-is_sound : goal.returns-then-not-is_sound
unfolding ask_rule
returns-then-not-is_sound c = search unsound

pub advance_when_sound-requires : goal.advance_when_sound-requires
unfolding ask_rule
advance_when_sound-requires c = search tables_told

pub returns : goal.returns
unfolding ask_rule
returns c = search asked
