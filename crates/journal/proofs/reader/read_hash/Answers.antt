use Rattle.std.proofs.Common.{arith}
use Rattle.journal.proofs.FieldReads.{hash_read}
use Rattle.journal.proofs.reader.read_hash.Goals as goal

pub returns : goal.returns
returns c = λ v. hash_read v c.args.at c.args.r c.args.body.now (omega arith)
