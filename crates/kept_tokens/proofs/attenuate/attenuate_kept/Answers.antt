-- `attenuate::attenuate_kept` meets its contract: the row of the parent, where there is one. Assumes nothing.
use Rattle.kept_tokens.proofs.CallLaws.{attenuate_found_lem}
use Rattle.kept_tokens.proofs.attenuate.attenuate_kept.Goals as goal

pub returns : goal.returns
returns c t e l = search attenuate_found_lem
