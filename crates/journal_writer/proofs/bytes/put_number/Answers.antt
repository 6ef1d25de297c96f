use Rattle.journal_writer.proofs.OverLaws.{number_puts}
use Rattle.journal_writer.proofs.bytes.put_number.Goals as goal

pub loop-i-preserved : goal.loop-i-preserved
loop-i-preserved c = search number_puts

pub returns : goal.returns
returns c = search number_puts
