-- `sound_work::advance_when_sound` meets its contract: the work is the rule. Assumes nothing.
use Rattle.lists.specs.RowLaws.{rows_length}
use Rattle.desk.proofs.StepLaws.{advances}
use Rattle.desk.proofs.sound_work.advance_when_sound.Goals as goal

pub returns : goal.returns
returns c = search (advances, rows_length)
