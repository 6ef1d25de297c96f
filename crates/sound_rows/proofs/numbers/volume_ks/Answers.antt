use Rattle.rows.specs.Blank.{blank_volume}
use Rattle.lists.specs.ByteLoopLaws.{fill_step_of, Fills-of}
use Rattle.sound_rows.specs.Numbers.{volume_k}
use Rattle.sound_rows.proofs.numbers.volume_ks.Goals as goal

pub loop-i-preserved : goal.loop-i-preserved
loop-i-preserved c = search (fill_step_of volume_k blank_volume, Fills-of)
