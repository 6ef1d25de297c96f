-- A refusal leaves the rows, and success sets the one row.
use Rattle.std.proofs.Common.{sym}
use Rattle.lent_relays.specs.Lent.{lighter}
use Rattle.lent_relays.proofs.LentLaws.{refused_rows, accepted_rows}
use Rattle.lent_relays.proofs.calls.give_back.Goals as goal

pub returns-in_err-i-clause-rows : goal.returns-in_err-i-clause-rows
returns-in_err-i-clause-rows c = refused_rows (λ r. lighter r c.args.bytes) _ _ _ (sym c.in_err-i.ensures.answer)

pub returns-clause-rows : goal.returns-clause-rows
returns-clause-rows c = accepted_rows (λ r. lighter r c.args.bytes) _ _ _ _ (sym c.in_ok-i.ensures.answer) c.give_back_row.ensures
