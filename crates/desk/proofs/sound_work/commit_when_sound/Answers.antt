-- `sound_work::commit_when_sound` meets its contract: the work is the rule. Assumes nothing.
use Rattle.lists.specs.RowLaws.{rows_length}
use Rattle.desk.proofs.StepLaws.{commits}
use Rattle.desk.proofs.sound_work.commit_when_sound.Goals as goal

pub returns : goal.returns
returns c = search (commits, rows_length)
