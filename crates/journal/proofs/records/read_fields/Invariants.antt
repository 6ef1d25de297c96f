-- What the fields that are left make of the record is what all of them make.
use Rattle.std.proofs.Common.{◌≡◌, ◌≤◌, length, drop}
use Rattle.journal.specs.Records.{fields_of}
use Rattle.journal.specs.Places.{blank}
use Rattle.journal.specs.Table.{read_on}
use Rattle.journal.proofs.records.read_fields.Given as goal

abbrev pub invariant-loop-f : goal.invariant-loop-f
invariant-loop-f l = record {
  within : l.at ≤ length l.fn.body;
  rest : read_on l.fn.v (fields_of l.fn.v l.fn.kind) 1 (blank l.fn.kind) l.fn.body ≡ read_on l.fn.v (drop l.f-index (fields_of l.fn.v l.fn.kind)) l.at l.r l.fn.body;
}
