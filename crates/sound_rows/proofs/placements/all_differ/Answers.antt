use Rattle.lists.specs.LoopLaws.{clashes}
use Rattle.sound_rows.proofs.PlaceLaws.{number_again, number_once}
use Rattle.sound_rows.proofs.RemainderLaws.{quick_differ}
use Rattle.sound_rows.proofs.placements.all_differ.Goals as goal

pub returns-then-remainders_differ : goal.returns-then-remainders_differ
returns-then-remainders_differ c = search quick_differ

pub returns-then-among : goal.returns-then-among
returns-then-among c = search number_again

pub loop-i-preserved : goal.loop-i-preserved
loop-i-preserved c = search number_once

pub returns : goal.returns
returns c = search clashes
