use Rattle.rules.specs.Sound.{sound_token}
use Rattle.rows.specs.LinkLaws.{depth_linked}
use Rattle.sound_rows.proofs.Told.{volume_in, parent_in, token_passed}
use Rattle.lists.specs.AnswerLaws.{refused, counted_over}
use Rattle.sound_rows.proofs.token_test.sound_token.Goals as goal

pub returns-then-not-token_fits : goal.returns-then-not-token_fits
unfolding sound_token
returns-then-not-token_fits c t e f g h = rw h (search refused depth 9)

pub returns-then-not-number_again : goal.returns-then-not-number_again
unfolding sound_token
returns-then-not-number_again c t e f g h = search (volume_in, refused) depth 9

pub returns-then-not-parent_there : goal.returns-then-not-parent_there
unfolding sound_token
returns-then-not-parent_there c t e f g h = search (parent_in, refused) depth 9

pub returns-then-depth-gt8 : goal.returns-then-depth-gt8
unfolding sound_token
returns-then-depth-gt8 c t e f g h = search (counted_over, depth_linked, refused) depth 9

pub returns : goal.returns
unfolding sound_token
returns c t e f g h = search (token_passed, volume_in, parent_in, depth_linked)
