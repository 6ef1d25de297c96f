use Rattle.rules.specs.Sound.{sound_volume}
use Rattle.lists.specs.AnswerLaws.{refused, passed, all_6, used}
use Rattle.sound_rows.proofs.volume_test.sound_volume.Goals as goal

pub returns-then-v-eq0 : goal.returns-then-v-eq0
unfolding sound_volume
returns-then-v-eq0 c t e f = rw (e, f) (search passed depth 9)

pub returns-then-not-is_given : goal.returns-then-not-is_given
unfolding sound_volume
returns-then-not-is_given c t e f = rw (e, f) (search refused depth 9)

pub returns-then-not-holds_name : goal.returns-then-not-holds_name
unfolding sound_volume
returns-then-not-holds_name c t e f = rw (e, f) (search refused depth 9)

pub returns-then-not-shards_fit : goal.returns-then-not-shards_fit
unfolding sound_volume
returns-then-not-shards_fit c t e f = rw (e, f) (search refused depth 9)

pub returns-then-not-cap_fits : goal.returns-then-not-cap_fits
unfolding sound_volume
returns-then-not-cap_fits c t e f = rw (e, f) (search refused depth 9)

pub returns-then-v-gt1000000000000000 : goal.returns-then-v-gt1000000000000000
unfolding sound_volume
returns-then-v-gt1000000000000000 c t e f = rw (e, f) (search refused depth 9)

pub returns : goal.returns
unfolding sound_volume
returns c t e f = rw (e, f) (search (all_6, used))
