use Rattle.lists.specs.ByteLoopLaws.{fill_step_of, Fills-of}
use Rattle.rules.specs.Rent.{size_of}
use Rattle.rows.specs.Blank.{blank_entry}
use Rattle.rents.proofs.raw.entry_sizes.Goals as goal

pub loop-i-preserved : goal.loop-i-preserved
loop-i-preserved c = search (fill_step_of size_of blank_entry, Fills-of)
