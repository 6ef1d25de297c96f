-- `relay_test::sound_relay` meets its contract: each test that led to a return is one of the rule's. Assumes nothing.
use Rattle.rules.specs.Sound.{sound_relay}
use Rattle.lists.specs.AnswerLaws.{refused, all_6, used, counted_other, counted_same, counted_is}
use Rattle.soundness.proofs.relay_test.sound_relay.Goals as goal

pub returns-then-x-load : goal.returns-then-x-load
unfolding sound_relay
returns-then-x-load c = search (refused, counted_other) depth 9

pub returns : goal.returns
unfolding sound_relay
returns c = search (all_6, counted_same, counted_is, used)
