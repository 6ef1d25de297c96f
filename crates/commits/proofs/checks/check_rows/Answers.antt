-- `checks::check_rows` meets its contract: check by check, then the rows. Assumes nothing.
use Rattle.lists.specs.AnswerLaws.{checks}
use Rattle.commits.specs.Verdicts.{passed_on}
use Rattle.commits.specs.Checks.{rows_number, fault_by}
use Rattle.commits.proofs.CheckLaws.{kept_told, ready_told, rows_found, volume_none, volume_at, token_none, token_at_lem}
use borrow.Author.Rules.{rules}
use Rattle.commits.proofs.checks.check_rows.Goals as goal

-- BAD
pub returns-then-not-can_check-clause-number : goal.returns-then-not-can_check-clause-number
unfolding rows_number fault_by
returns-then-not-can_check-clause-number c = search checks

-- NO_VOLUME
pub returns-in_default-clause-number : goal.returns-in_default-clause-number
unfolding rows_number fault_by
returns-in_default-clause-number c = search (checks, volume_none)

-- NO_TOKEN
pub returns-then-not-there-clause-number : goal.returns-then-not-there-clause-number
unfolding rows_number fault_by
returns-then-not-there-clause-number c = search (checks, volume_at, token_none)

pub rows_check-requires : goal.rows_check-requires
unfolding rows_number fault_by
rows_check-requires c = (search ready_told, search rules, search kept_told, search rules)

pub returns-in_err-p-clause-number : goal.returns-in_err-p-clause-number
unfolding rows_number fault_by
returns-in_err-p-clause-number c =
    let told = c.in_err-p.ensures.number in
    rw (passed_on _ _ c.from_residual.ensures.1) (search (checks, volume_at, token_at_lem, told))

pub returns-clause-number : goal.returns-clause-number
unfolding rows_number fault_by
returns-clause-number c =
    let told = c.in_ok-p.ensures.number in
    search (checks, volume_at, token_at_lem, told)

pub returns-clause-found : goal.returns-clause-found
returns-clause-found c = search (rows_found, rules)
