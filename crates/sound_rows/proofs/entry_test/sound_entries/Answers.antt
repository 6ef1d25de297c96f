use Rattle.rules.specs.Sound.{sound_entries}
use Rattle.lists.specs.AnswerLaws.{said_yes}
use Rattle.sound_rows.proofs.KeyLaws.{no_entries, keys_apart, both_hold}
use Rattle.sound_rows.proofs.entry_test.sound_entries.Goals as goal

pub returns-then-not-any_number : goal.returns-then-not-any_number
unfolding sound_entries
returns-then-not-any_number c = search no_entries

pub returns-then-numbers_differ : goal.returns-then-numbers_differ
unfolding sound_entries
returns-then-numbers_differ c = search (keys_apart, both_hold, said_yes)
