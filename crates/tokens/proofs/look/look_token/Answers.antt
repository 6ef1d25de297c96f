-- `look::look_token` meets its contract: its checks in order. Assumes nothing.
use Rattle.rules.specs.TokenCalls.{look_in}
use Rattle.lists.specs.AnswerLaws.{checks}
use Rattle.tokens.proofs.LookLaws.{window_shut, window_open, entry_told}
use Rattle.tokens.proofs.RowAnswers.{refuses}
use Rattle.tokens.proofs.look.look_token.Goals as goal

-- WINDOW
pub returns-then-not-in_window : goal.returns-then-not-in_window
unfolding look_in
returns-then-not-in_window c t j e f = search (window_shut, checks, refuses)

-- MODE
pub returns-then-not-can_read : goal.returns-then-not-can_read
unfolding look_in
returns-then-not-can_read c t j e f = search (window_open, checks, refuses)

-- PREFIX
pub returns-then-not-covers : goal.returns-then-not-covers
unfolding look_in
returns-then-not-covers c t j e f = search (window_open, checks, refuses)

-- by the entry
pub returns : goal.returns
unfolding look_in
returns c t j e f = search (window_open, checks, entry_told)
