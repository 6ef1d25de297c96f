-- `walk::kept_survey` meets its contract: by whether there are puts. Assumes nothing.
use Rattle.kept_entries.proofs.SurveyLaws.{surveys, survey_some}
use Rattle.kept_entries.proofs.walk.kept_survey.Goals as goal

-- no puts
pub returns-then-count-eq0 : goal.returns-then-count-eq0
returns-then-count-eq0 c = search surveys

pub overflow_add-result : goal.overflow_add-result
overflow_add-result c = search surveys

pub returns : goal.returns
returns c = search survey_some
