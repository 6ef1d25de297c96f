use Rattle.std.proofs.Common.{arith}
use Rattle.journal_writer.proofs.WriteLaws.{answers, lays, whole_buffer}
use Rattle.journal_writer.proofs.write.write_in.Goals as goal

pub returns-in_default : goal.returns-in_default
returns-in_default c = record { answer = search answers; buffer = search answers }

pub returns-in_default-measure : goal.returns-in_default-measure
returns-in_default-measure c = record { answer = search answers; buffer = search answers }

pub returns-then-out-len : goal.returns-then-out-len
returns-then-out-len c = record { answer = search answers; buffer = search answers }

pub put_fields-requires : goal.put_fields-requires
put_fields-requires c = record { room = search lays; given = search lays }

pub returns : goal.returns
returns c = record {
  answer = search answers;
  buffer =
      whole_buffer c.args.v c.args.d c.args.text.now c.kind_numbered.result c.kind_numbered.ensures c.in-Some.kind c.in-Some.is c.measure.result
      c.measure.ensures.value c.in-Some-measure.n c.in-Some-measure.is c.args.out.now (omega arith) c.put_number.new.out c.put_number-2.new.out
      c.put_fields.new.out c.put_number.ensures c.put_number-2.ensures c.put_fields.ensures;
}
