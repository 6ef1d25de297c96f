-- `tables::sound_tables` meets its contract: each test that led to a return is one of the rule's. Assumes nothing.
use Rattle.rules.specs.Sound.{sound_tables}
use Rattle.lists.specs.AnswerLaws.{all_5, said_yes}
use Rattle.soundness.proofs.RelayLaws.{no_relays}
use Rattle.soundness.proofs.tables.sound_tables.Goals as goal

pub returns-then-not-any_relays : goal.returns-then-not-any_relays
unfolding sound_tables
returns-then-not-any_relays c = search (all_5, no_relays, said_yes)
