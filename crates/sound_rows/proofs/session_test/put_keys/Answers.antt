use Rattle.sound_rows.proofs.PutKeyLaws.{puts}
use Rattle.sound_rows.proofs.session_test.put_keys.Goals as goal

pub loop-i-preserved : goal.loop-i-preserved
loop-i-preserved c = search puts
