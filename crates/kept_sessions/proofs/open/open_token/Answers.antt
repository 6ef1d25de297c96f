-- `open_token` meets its contract: each return is that of its check, and the last that of the volume. Assumes nothing.
use Rattle.rules.specs.SessionCalls.{open_token}
use Rattle.lists.specs.AnswerLaws.{checks, in_table}
use Rattle.kept_sessions.proofs.KeptAnswers.{refuses, volume_none, volume_at, in_window_lem, no_window}
use Rattle.kept_sessions.proofs.open.open_token.Goals as goal

pub returns-then-not-in_window : goal.returns-then-not-in_window
unfolding open_token
returns-then-not-in_window c j t e f = search (no_window, refuses, checks)

pub returns-then-not-can_write : goal.returns-then-not-can_write
unfolding open_token
returns-then-not-can_write c j t e f = search (in_window_lem, refuses, checks)

pub returns-in_default : goal.returns-in_default
unfolding open_token
returns-in_default c j t e f = search (in_window_lem, volume_none, checks)

pub offset_bounds-volumes-i : goal.offset_bounds-volumes-i
offset_bounds-volumes-i c = search in_table

pub bounds-volumes-i : goal.bounds-volumes-i
bounds-volumes-i c = search in_table

pub returns : goal.returns
unfolding open_token
returns c j t e f = search (in_window_lem, volume_at, checks)
