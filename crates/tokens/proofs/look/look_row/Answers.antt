-- `look::look_row` meets its contract: its path, then the row of its token. Assumes nothing.
use Rattle.lists.specs.AnswerLaws.{checks}
use Rattle.tokens.specs.Rows.{look_found}
use Rattle.tokens.proofs.LookLaws.{look_none, look_at_lem}
use Rattle.tokens.proofs.RowAnswers.{refuses}
use Rattle.tokens.proofs.look.look_row.Goals as goal

-- BAD
pub returns-then-not-is_path : goal.returns-then-not-is_path
unfolding look_found
returns-then-not-is_path c t e f = search (checks, refuses)

-- NO_TOKEN
pub returns-then-not-there : goal.returns-then-not-there
unfolding look_found
returns-then-not-there c t e f = search (checks, look_none, refuses)

-- by the token
pub returns : goal.returns
unfolding look_found
returns c t e f = search (checks, look_at_lem)
