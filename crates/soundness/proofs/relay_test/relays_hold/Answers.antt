use Rattle.lists.specs.AnswerLaws.{said_yes}
use Rattle.lists.specs.LoopLaws.{alls}
use Rattle.lists.specs.RowLaws.{rows_length}
use Rattle.soundness.proofs.RelayLaws.{relays_clash, relay_fails, relays_hold}
use Rattle.soundness.proofs.ShardLaws.{load_start, load_on, load_off, load_bytes, load_shards, bytes_fit, shards_fit_lem}
use Rattle.soundness.proofs.RelayLaws.{relay_skipped}
use borrow.Author.Rules.{rules}
use Rattle.soundness.proofs.relay_test.relays_hold.Goals.{else-in_set, else-n-ne0, then-in_set, then-n-ne0+else-loop-j-test+else-not-sound_relay}
use Rattle.soundness.proofs.relay_test.relays_hold.Goals as goal

pub returns-then-not-relays_differ : goal.returns-then-not-relays_differ
returns-then-not-relays_differ c = search relays_clash

pub loop-i-init : goal.loop-i-init
loop-i-init c = (
  record {
    size = search (rows_length, rules);
    rows = search (rows_length, rules);
    sized = search rules;
    differ = search said_yes;
    held = search rules;
    volumes = search rules;
    entries = search rules;
  },
  search alls,
)

pub loop-j-init : goal.loop-j-init
loop-j-init c = search load_start

pub overflow_add-bytes : goal.overflow_add-bytes
overflow_add-bytes c = search bytes_fit

pub overflow_add-shards : goal.overflow_add-shards
overflow_add-shards c = search shards_fit_lem

pub loop-j-preserved : goal.loop-j-preserved
loop-j-preserved c = elim c.if-in_set.branch [ then-in_set w ↦ search load_on | else-in_set w ↦ search load_off ]

pub sound_relay-requires : goal.sound_relay-requires
sound_relay-requires c = search (load_bytes, load_shards)

pub returns-then-not-sound_relay : goal.returns-then-not-sound_relay
returns-then-not-sound_relay c = search relay_fails

pub loop-i-preserved : goal.loop-i-preserved
loop-i-preserved c = elim c.if-n-ne0.branch [ then-n-ne0+else-loop-j-test+else-not-sound_relay w ↦ search alls | else-n-ne0 w ↦ search relay_skipped ]

pub returns : goal.returns
returns c = search relays_hold
