-- `grant::grant_kept` meets its contract: a free row, where there is one, and the new token in it. Assumes nothing.
use Rattle.kept_tokens.proofs.CallLaws.{grant_kept}
use Rattle.kept_tokens.proofs.grant.grant_kept.Goals as goal

pub returns : goal.returns
returns c t v e l = search grant_kept
