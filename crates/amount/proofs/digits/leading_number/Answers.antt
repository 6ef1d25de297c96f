-- Each byte that is passed is one digit more.
use Rattle.std.proofs.Common.{arith}
use Rattle.amount.specs.StepLaws.{scanned_on}
use Rattle.amount.proofs.digits.leading_number.Goals as goal

pub loop-i-preserved : goal.loop-i-preserved
loop-i-preserved c =
    record {
      few = omega arith;
      passed = rw c.from.ensures (scanned_on c.loop-i.invariant.passed c.loop-i-test.true c.is_ascii_digit.ensures.value c.if-not-is_ascii_digit.false);
    }
