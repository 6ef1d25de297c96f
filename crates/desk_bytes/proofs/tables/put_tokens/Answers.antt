use Rattle.desk_bytes.proofs.RowLoops.{rows_written}
use Rattle.desk_bytes.proofs.tables.put_tokens.Goals as goal

pub loop-i-init : goal.loop-i-init
loop-i-init c = search rows_written

pub loop-i-preserved : goal.loop-i-preserved
loop-i-preserved c = search rows_written
