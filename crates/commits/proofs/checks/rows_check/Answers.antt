-- `checks::rows_check` meets its contract: the token's row, then the limits, then the placing. Assumes nothing.
use Rattle.commits.specs.Verdicts.{passed_on}
use Rattle.commits.proofs.CheckLaws.{fault_first, fault_next, fault_place, no_fault}
use Rattle.commits.proofs.checks.rows_check.Goals as goal

pub returns-in_err-token_fault-clause-number : goal.returns-in_err-token_fault-clause-number
returns-in_err-token_fault-clause-number c =
    let was = c.in_err-token_fault.was in
    rw (passed_on _ _ c.from_residual.ensures.1) (search (fault_first, was))

pub returns-in_err-limits_fault-clause-number : goal.returns-in_err-limits_fault-clause-number
returns-in_err-limits_fault-clause-number c =
    let first = c.in_ok-token_fault.was in
    let was = c.in_err-limits_fault.was in
    rw (passed_on _ _ c.from_residual-in_err-limits_fault.ensures.1) (search (fault_next, first, was))

-- NO_PLACE
pub returns-in_default-clause-number : goal.returns-in_default-clause-number
returns-in_default-clause-number c =
    let first = c.in_ok-token_fault.was in
    let next = c.in_ok-limits_fault.was in
    search (fault_place, first, next)

pub returns-clause-number : goal.returns-clause-number
returns-clause-number c =
    let first = c.in_ok-token_fault.was in
    let next = c.in_ok-limits_fault.was in
    search (no_fault, first, next)
