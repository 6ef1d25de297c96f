-- `commit::token_row` meets its contract: the row that was found, or that there is none. Assumes nothing.
use Rattle.lists.specs.AnswerLaws.{in_table}
use Rattle.commits.proofs.CheckLaws.{token_absent, token_present}
use borrow.Author.Rules.{rules}
use Rattle.commits.proofs.commit.token_row.Goals as goal

pub returns-in_default : goal.returns-in_default
returns-in_default c = search (token_absent, rules)

pub offset_bounds-tokens-j : goal.offset_bounds-tokens-j
offset_bounds-tokens-j c = search in_table

pub bounds-tokens-j : goal.bounds-tokens-j
bounds-tokens-j c = search in_table

pub returns : goal.returns
returns c = search (token_present, in_table, rules)
