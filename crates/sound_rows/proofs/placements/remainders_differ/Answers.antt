use mathlib.Core.Path.{refl}
use Rattle.lists.specs.BoolLaws.{not_both}
use Rattle.sound_rows.proofs.RemainderLaws.{seens}
use Rattle.sound_rows.proofs.placements.remainders_differ.Goals as goal

pub returns-then-seen-r : goal.returns-then-seen-r
returns-then-seen-r c e = absurd (not_both e refl)

pub loop-i-preserved : goal.loop-i-preserved
loop-i-preserved c = search seens

pub returns : goal.returns
returns c e = search seens
