-- `open_token` meets its contract: each return is that of its check, and the last that of the volume. Assumes nothing.
use Rattle.rules.specs.SessionCalls.{open_token}
use Rattle.lists.specs.AnswerLaws.{checks}
use Rattle.sessions.proofs.RowAnswers.{refuses, volume_none, volume_at, in_window_lem, no_window}
use Rattle.sessions.proofs.open.open_token.Goals as goal

-- WINDOW
pub returns-then-not-in_window : goal.returns-then-not-in_window
unfolding open_token
returns-then-not-in_window c t e f = search (no_window, refuses, checks)

-- MODE
pub returns-then-not-can_write : goal.returns-then-not-can_write
unfolding open_token
returns-then-not-can_write c t e f = search (in_window_lem, refuses, checks)

-- STATE
pub returns-in_default : goal.returns-in_default
unfolding open_token
returns-in_default c t e f = search (in_window_lem, volume_none, checks)

-- by the volume
pub returns : goal.returns
unfolding open_token
returns c t e f = search (in_window_lem, volume_at, checks)
