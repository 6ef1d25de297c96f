use Rattle.journal_writer.proofs.SizeLaws.{measures, size_step}
use Rattle.journal_writer.proofs.write.measure.Goals as goal

pub returns-in_err-n-clause-value : goal.returns-in_err-n-clause-value
returns-in_err-n-clause-value c = search measures

pub loop-f-preserved : goal.loop-f-preserved
loop-f-preserved c =
    size_step c.args.v c.args.kind c.args.d c.args.text.now c.fields_of-f-items.result.now c.fields_of-f-items.ensures c.loop-f.n c.loop-f.f-index
    c.loop-f.invariant c.loop-f-test.true c.field_size.result c.field_size.ensures.value c.in_ok-n.field-0 c.in_ok-n.was c.field_size.ensures.small

pub returns : goal.returns
returns c = record { value = search measures; sized = search measures }
