use Rattle.lists.specs.ByteLoopLaws.{fill_step_of, Fills-of}
use Rattle.rents.specs.Within.{entry_volume}
use Rattle.rows.specs.Blank.{blank_entry}
use Rattle.rents.proofs.raw.entry_volumes.Goals as goal

pub loop-i-preserved : goal.loop-i-preserved
loop-i-preserved c = search (fill_step_of entry_volume blank_entry, Fills-of)
