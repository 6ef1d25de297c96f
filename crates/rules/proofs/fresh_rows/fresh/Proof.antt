-- `fresh_rows::fresh` meets its contract: the tables and each slot are the fresh ones. Assumes nothing.
use borrow.Author.Rules.{rules}
use Rattle.rules.proofs.MadeLaws.{made}
use Rattle.rules.proofs.fresh_rows.fresh.Statement.{statement}
use Rattle.rules.proofs.fresh_rows.fresh.Tie as tie

pub fresh_spec : {M : Type 1} → statement M
fresh_spec =
    tie.close
    (tie.spec
    (λ c κs. search rules)
    (λ c κs. search rules)
    (λ c. search made))
