use Rattle.lists.specs.LoopLaws.{clashes}
use Rattle.sound_rows.proofs.Told.{name_skipped}
use Rattle.sound_rows.proofs.volume_test.names_differ.Goals.{else-v-ne0, then-v-ne0+else-name_again}
use Rattle.sound_rows.proofs.volume_test.names_differ.Goals as goal

pub returns-then-name_again : goal.returns-then-name_again
returns-then-name_again c = search clashes

pub loop-i-preserved : goal.loop-i-preserved
loop-i-preserved c = elim c.if-v-ne0.branch [ then-v-ne0+else-name_again w ↦ search clashes | else-v-ne0 w ↦ search name_skipped ]

pub returns : goal.returns
returns c = search clashes
