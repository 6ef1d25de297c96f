use Rattle.rules.specs.Sound.{sound_placement}
use Rattle.lists.specs.AnswerLaws.{refused, passed}
use Rattle.lists.specs.RowLaws.{rows_length}
use Rattle.sound_rows.proofs.PlaceLaws.{places_given, places_differ}
use Rattle.sound_rows.proofs.placements.sound_placement.Goals as goal

pub returns-then-len-width : goal.returns-then-len-width
unfolding sound_placement
returns-then-len-width c t v e f = rw f (search refused)

pub returns-then-not-all_given : goal.returns-then-not-all_given
unfolding sound_placement
returns-then-not-all_given c t v e f = rw f (search (places_given, rows_length, refused))

pub returns : goal.returns
unfolding sound_placement
returns c t v e f = rw f (search (places_given, places_differ, rows_length, passed))
