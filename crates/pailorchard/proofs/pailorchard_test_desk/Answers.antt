use Rattle.std.proofs.Common.{rules}
use Rattle.pailorchard.proofs.ResultLaws.{tested, untested}
use Rattle.pailorchard.proofs.pailorchard_test_desk.Goals as goal

pub returns-then-is_err-clause-value : goal.returns-then-is_err-clause-value
returns-then-is_err-clause-value c = search (untested, rules)

pub returns-clause-value : goal.returns-clause-value
returns-clause-value c = search (tested, rules)
