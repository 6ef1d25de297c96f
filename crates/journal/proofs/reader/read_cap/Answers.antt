use Rattle.std.proofs.Common.{rules}
use Rattle.journal.proofs.FieldReads.{count_cut, count_read}
use Rattle.journal.proofs.reader.read_cap.Goals as goal

pub returns-in_err-n-in-1 : goal.returns-in_err-n-in-1
returns-in_err-n-in-1 c = search (count_cut, rules)

pub returns-in_ok-n-in-1 : goal.returns-in_ok-n-in-1
returns-in_ok-n-in-1 c = λ v. search (count_read, rules)
