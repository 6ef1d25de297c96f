use Rattle.lists.specs.ByteLoopLaws.{fill_step_of, Fills-of}
use Rattle.kept_entries.proofs.RowLaws.{kept_size, blank_kept, sizes_of}
use Rattle.kept_entries.proofs.marks.kept_sizes.Goals as goal

pub loop-i-preserved : goal.loop-i-preserved
loop-i-preserved c = search (fill_step_of kept_size blank_kept, Fills-of)

pub returns : goal.returns
returns c = search (sizes_of, Fills-of)
