use Rattle.std.proofs.Common.{rules}
use Rattle.journal.proofs.FieldReads.{number_fits}
use Rattle.journal.proofs.reader.read_number.Goals as goal

pub store-requires : goal.store-requires
store-requires c = search (number_fits, rules)
