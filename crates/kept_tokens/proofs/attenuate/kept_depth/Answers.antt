-- `attenuate::kept_depth` meets its contract: the lists of the numbers hold the chain. Assumes nothing.
use borrow.Author.Rules.{rules}
use Rattle.kept_tokens.proofs.CallLaws.{depth_kept}
use Rattle.kept_tokens.proofs.attenuate.kept_depth.Goals as goal

pub returns : goal.returns
returns c = search (depth_kept, rules)
