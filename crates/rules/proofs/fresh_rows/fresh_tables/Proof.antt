-- `fresh_rows::fresh_tables` meets its contract: each row is the fresh one. Assumes nothing.
use borrow.Author.Rules.{rules}
use Rattle.rules.proofs.MadeLaws.{made}
use Rattle.rules.proofs.fresh_rows.fresh_tables.Statement.{statement}
use Rattle.rules.proofs.fresh_rows.fresh_tables.Tie as tie

pub fresh_tables_spec : {M : Type 1} → statement M
fresh_tables_spec =
    tie.close
    (tie.spec
    (λ c κs. search rules)
    (λ c κs. search rules)
    (λ c κs. search rules)
    (λ c κs. search rules)
    (λ c. search made))
