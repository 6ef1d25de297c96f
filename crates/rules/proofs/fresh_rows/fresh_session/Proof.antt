use borrow.Author.Rules.{rules}
use Rattle.rules.proofs.MadeLaws.{made}
use Rattle.rules.proofs.fresh_rows.fresh_session.Statement.{statement}
use Rattle.rules.proofs.fresh_rows.fresh_session.Tie as tie

pub fresh_session_spec : {M : Type 1} → statement M
fresh_session_spec =
    tie.close
    (tie.spec
    (λ c κs. search rules)
    (λ c. search made))
