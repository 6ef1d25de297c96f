-- The bytes that were passed are digits, at most so many, and n is their number.
use Rattle.std.proofs.Common.{◌≤◌}
use Rattle.amount.specs.StepLaws.{Scanned}
use Rattle.amount.proofs.digits.leading_number.Given as goal

abbrev pub invariant-loop-i : goal.invariant-loop-i
invariant-loop-i l = record { few : l.i ≤ l.most; passed : Scanned l.text l.i l.n }
