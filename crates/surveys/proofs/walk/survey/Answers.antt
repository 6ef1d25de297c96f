-- `walk::survey` meets its contract: by whether there are puts, and whether they replace an entry. Assumes nothing.
use Rattle.surveys.proofs.SurveyLaws.{surveys}
use Rattle.surveys.proofs.walk.survey.Goals as goal

-- no puts
pub returns-then-count-eq0 : goal.returns-then-count-eq0
returns-then-count-eq0 c = search surveys

pub overflow_add-result : goal.overflow_add-result
overflow_add-result c = search surveys

-- some entry is replaced
pub returns-then-any_mark : goal.returns-then-any_mark
returns-then-any_mark c = search surveys

pub returns : goal.returns
returns c = search surveys
