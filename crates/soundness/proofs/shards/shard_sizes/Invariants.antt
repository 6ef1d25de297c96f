-- `shards::shard_sizes` meets its contract: after i turns the sizes of the first i entries are stored. Assumes nothing.
use Prim.Native.Nat.{◌-◌}
use Rattle.soundness.proofs.ShardLaws.{SizesLoop}
use Rattle.soundness.proofs.shards.shard_sizes.Given as goal

abbrev pub invariant-loop-i : goal.invariant-loop-i
invariant-loop-i l = SizesLoop l.entries l.numbers l.ks l.sizes l.i
