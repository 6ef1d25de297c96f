use Rattle.journal.proofs.ReadLaws.{fields_read}
use Rattle.journal.proofs.records.read_fields.Goals as goal

pub returns-in_default : goal.returns-in_default
returns-in_default c = search fields_read

pub loop-f-preserved : goal.loop-f-preserved
loop-f-preserved c = record { within = search fields_read; rest = search fields_read }

pub returns-then-at-body : goal.returns-then-at-body
returns-then-at-body c = search fields_read

pub returns : goal.returns
returns c = search fields_read
