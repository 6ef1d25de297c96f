use Rattle.std.proofs.Common.{arith}
use Rattle.journal.proofs.FieldReads.{account_read}
use Rattle.journal.proofs.reader.read_account.Goals as goal

pub returns : goal.returns
returns c = λ v. account_read v c.args.at c.args.r c.args.body.now (omega arith)
