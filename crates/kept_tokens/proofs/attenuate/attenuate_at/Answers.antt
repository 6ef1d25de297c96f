-- `attenuate::attenuate_at` meets its contract: a free row, where there is one, and the new token in it. Assumes nothing.
use Rattle.kept_tokens.proofs.CallLaws.{attenuate_kept}
use Rattle.kept_tokens.proofs.attenuate.attenuate_at.Goals as goal

pub returns : goal.returns
returns c t n i e l q = search attenuate_kept
