use Rattle.rows.specs.LinkLaws.{depth_linked}
use Rattle.std.proofs.Common.{rules}
use Rattle.rows.proofs.chain.depth_of.Goals as goal

pub returns : goal.returns
returns c = search (depth_linked, rules)
