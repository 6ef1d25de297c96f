use Rattle.journal_writer.proofs.WriteLaws.{puts}
use Rattle.journal_writer.proofs.write.put_fields.Goals as goal

pub put_field-at-requires : goal.put_field-at-requires
put_field-at-requires c = record { room = search puts; given = search puts }

pub loop-f-preserved : goal.loop-f-preserved
loop-f-preserved c = search puts

pub returns : goal.returns
returns c = search puts
