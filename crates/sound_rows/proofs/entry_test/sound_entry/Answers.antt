use Rattle.rules.specs.Sound.{sound_entry}
use Rattle.lists.specs.AnswerLaws.{passed}
use Rattle.sound_rows.proofs.Told.{in_told}
use Rattle.sound_rows.proofs.entry_test.sound_entry.Goals as goal

pub returns : goal.returns
unfolding sound_entry
returns c t e f g = search (in_told, passed)
