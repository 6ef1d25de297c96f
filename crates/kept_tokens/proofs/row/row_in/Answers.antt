-- `row::row_in` meets its contract: the row that was found, or that there is none. Assumes nothing.
use Rattle.lists.specs.AnswerLaws.{in_table}
use borrow.Author.Rules.{rules}
use Rattle.kept_tokens.proofs.RowLaws.{kept_absent, kept_present}
use Rattle.kept_tokens.proofs.row.row_in.Goals as goal

pub returns-in_default : goal.returns-in_default
returns-in_default c = search (kept_absent, rules)

pub offset_bounds-rows-at : goal.offset_bounds-rows-at
offset_bounds-rows-at c = search in_table

pub bounds-rows-at : goal.bounds-rows-at
bounds-rows-at c = search in_table

pub returns : goal.returns
returns c = search (kept_present, in_table)
