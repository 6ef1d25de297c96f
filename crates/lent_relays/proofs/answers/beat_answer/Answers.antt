use Rattle.lent_relays.specs.Lent.{beat_answer, beat_in}
use Rattle.lists.specs.AnswerLaws.{checks, said}
use Rattle.lent_relays.proofs.RowAnswers.{beat_none, beat_at}
use Rattle.lent_relays.proofs.answers.beat_answer.Goals as goal

-- 1
pub returns-then-not-table_fits-clause-answer : goal.returns-then-not-table_fits-clause-answer
unfolding beat_answer beat_in
returns-then-not-table_fits-clause-answer c = search checks

-- 26, unknown
pub returns-in_default-clause-answer : goal.returns-in_default-clause-answer
unfolding beat_answer beat_in
returns-in_default-clause-answer c = search (checks, beat_none)

-- 26, health 0
pub returns-then-no_health-clause-answer : goal.returns-then-no_health-clause-answer
unfolding beat_answer beat_in
returns-then-no_health-clause-answer c = search (checks, said, beat_at)

-- accepted
pub returns-clause-answer : goal.returns-clause-answer
unfolding beat_answer beat_in
returns-clause-answer c = search (checks, said, beat_at)
