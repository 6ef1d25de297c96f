use Rattle.std.proofs.Common.{rules, arith}
use Rattle.journal.proofs.FrameLaws.{nexts, record_whole, record_refused}
use Rattle.journal.proofs.frame.next_record.Goals as goal

pub returns-then-rest-len : goal.returns-then-rest-len
returns-then-rest-len c = search (nexts, rules)

pub returns-in_err-r : goal.returns-in_err-r
returns-in_err-r c =
    record_refused c.args.v c.args.rest.now c.number_at.result c.number_at.ensures c.in-Some.n c.in-Some.is c.type_inv.rest
    c.read_record.result c.read_record.ensures (omega arith) c.in_err-r.field-0.0 c.in_err-r.was c.from_residual.result c.from_residual.ensures.1

pub returns : goal.returns
returns c =
    record_whole c.args.v c.args.rest.now c.number_at.result c.number_at.ensures c.in-Some.n c.in-Some.is c.type_inv.rest
    c.read_record.result c.read_record.ensures (omega arith) c.in_ok-r.r c.in_ok-r.was
