use Rattle.std.proofs.Common.{rules}
use Rattle.journal.proofs.PartLaws.{padded_from}
use Rattle.journal.proofs.parts.bytes32.Goals as goal

pub returns : goal.returns
returns c = search (padded_from, rules)
