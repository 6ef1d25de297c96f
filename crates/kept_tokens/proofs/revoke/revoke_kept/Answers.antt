-- `revoke::revoke_kept` meets its contract: the row of its token, where there is one. Assumes nothing.
use Rattle.kept_tokens.proofs.CallLaws.{revoke_found}
use Rattle.kept_tokens.proofs.revoke.revoke_kept.Goals as goal

pub returns : goal.returns
returns c t v e l = search revoke_found
