use Rattle.lent_relays.specs.Lent.{back_answer, back_in}
use Rattle.lists.specs.AnswerLaws.{checks}
use Rattle.lent_relays.proofs.RowAnswers.{back_none, back_at}
use Rattle.lent_relays.proofs.answers.back_answer.Goals as goal

-- 1
pub returns-then-not-table_fits-clause-answer : goal.returns-then-not-table_fits-clause-answer
unfolding back_answer back_in
returns-then-not-table_fits-clause-answer c = search checks

-- 26
pub returns-in_default-clause-answer : goal.returns-in_default-clause-answer
unfolding back_answer back_in
returns-in_default-clause-answer c = search (checks, back_none)

-- accepted
pub returns-clause-answer : goal.returns-clause-answer
unfolding back_answer back_in
returns-clause-answer c = search (checks, back_at)
