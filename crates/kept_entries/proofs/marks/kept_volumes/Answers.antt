use Rattle.lists.specs.ByteLoopLaws.{fill_step_of, Fills-of}
use Rattle.kept_entries.proofs.RowLaws.{kept_volume, blank_kept, volumes_of}
use Rattle.kept_entries.proofs.marks.kept_volumes.Goals as goal

pub loop-i-preserved : goal.loop-i-preserved
loop-i-preserved c = search (fill_step_of kept_volume blank_kept, Fills-of)

pub returns : goal.returns
returns c = search (volumes_of, Fills-of)
