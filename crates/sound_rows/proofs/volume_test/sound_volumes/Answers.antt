use Rattle.rules.specs.Sound.{sound_volumes}
use Rattle.lists.specs.AnswerLaws.{refused, passed}
use Rattle.sound_rows.proofs.NumberLaws.{volumes_differ}
use Rattle.sound_rows.proofs.volume_test.sound_volumes.Goals as goal

pub returns-then-not-numbers_differ : goal.returns-then-not-numbers_differ
unfolding sound_volumes
returns-then-not-numbers_differ c = search (refused, volumes_differ) depth 9

pub returns : goal.returns
unfolding sound_volumes
returns c = search (passed, volumes_differ) depth 9
