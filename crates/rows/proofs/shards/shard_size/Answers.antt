use Rattle.std.proofs.Common.{◌∙◌}
use Rattle.rules.proofs.Laws.CeilLaws.{ceil_rounded}
use Rattle.rows.proofs.shards.shard_size.Goals as goal

pub returns : goal.returns
returns c =
    let rounded = rw c.from.ensures at c.div_ceil.ensures in
    rounded ∙ ceil_rounded _ _ c.if-k-eq0.false
