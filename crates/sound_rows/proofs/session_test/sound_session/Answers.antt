use Rattle.rules.specs.Sound.{sound_session}
use Rattle.lists.specs.AnswerLaws.{refused, passed, all_5, used, not_some, not_none, none_given, some_given}
use Rattle.sound_rows.proofs.session_test.sound_session.Goals as goal

pub returns-then-s-eq0 : goal.returns-then-s-eq0
unfolding sound_session
returns-then-s-eq0 c t e f = search (passed, not_none, none_given)

pub returns-then-not-is_given : goal.returns-then-not-is_given
unfolding sound_session
returns-then-not-is_given c t e f = rw (e, f) (search (not_some, some_given, refused) depth 9)

pub returns-then-not-is_given-2 : goal.returns-then-not-is_given-2
unfolding sound_session
returns-then-not-is_given-2 c t e f = rw (e, f) (search (not_some, some_given, refused) depth 9)

pub returns-then-count-gt8 : goal.returns-then-count-gt8
unfolding sound_session
returns-then-count-gt8 c t e f = rw (e, f) (search (not_some, some_given, refused) depth 9)

pub returns-then-not-all_puts : goal.returns-then-not-all_puts
unfolding sound_session
returns-then-not-all_puts c t e f = rw (e, f) (search (not_some, some_given, refused) depth 9)

pub returns : goal.returns
unfolding sound_session
returns c t e f = rw (e, f) (search (all_5, not_some, some_given, used))
