use Rattle.entries.proofs.KeyLaws.{put-keys}
use Rattle.entries.proofs.keys.put_keys.Goals as goal

pub loop-i-preserved : goal.loop-i-preserved
loop-i-preserved c = search put-keys
