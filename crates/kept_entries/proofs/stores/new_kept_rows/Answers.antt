-- `stores::new_kept_rows` meets its contract: by whether a mark is set. Assumes nothing.
use Rattle.kept_entries.proofs.SurveyLaws.{every_new}
use borrow.Author.Rules.{rules}
use Rattle.kept_entries.proofs.stores.new_kept_rows.Goals as goal

-- no mark
pub returns-then-not-any_mark : goal.returns-then-not-any_mark
returns-then-not-any_mark c = search (every_new, rules)
