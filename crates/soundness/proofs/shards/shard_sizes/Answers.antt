use Rattle.soundness.proofs.ShardLaws.{size_skipped, size_stored}
use Rattle.soundness.proofs.shards.shard_sizes.Goals.{else-entries-i-ne0, then-entries-i-ne0}
use Rattle.soundness.proofs.shards.shard_sizes.Goals as goal

pub loop-i-preserved : goal.loop-i-preserved
loop-i-preserved c = elim c.if-entries-i-ne0.branch [ then-entries-i-ne0 w ↦ search size_stored | else-entries-i-ne0 w ↦ search size_skipped ]
