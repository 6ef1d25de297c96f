-- `stage_put` meets its contract: the path has a place, or there is none left, or it takes the next. Assumes nothing.
use borrow.Author.Rules.{rules}
use Rattle.lists.specs.AnswerLaws.{row_in_part}
use Rattle.lists.specs.RowLaws.{rows_length}
use Rattle.kept_sessions.proofs.KeptAnswers.{stages_full, stages_next, stages_again}
use Rattle.kept_sessions.proofs.stage.stage_put.Goals as goal

pub returns-then-count-ge8 : goal.returns-then-count-ge8
returns-then-count-ge8 c t = search stages_full

pub returns-in_default : goal.returns-in_default
returns-in_default c t = search stages_next

pub put_again-requires : goal.put_again-requires
put_again-requires c = search (row_in_part, rows_length, rules)

pub returns : goal.returns
returns c t = search stages_again
