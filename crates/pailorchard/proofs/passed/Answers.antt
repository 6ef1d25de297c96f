use Rattle.pailorchard.proofs.TestLoop.{tests_start, tests_fail, tests_pass, tests_end}
use Rattle.pailorchard.proofs.passed.Goals as goal

pub loop-n-init : goal.loop-n-init
loop-n-init c = search tests_start

pub returns-then-not-is_sound : goal.returns-then-not-is_sound
returns-then-not-is_sound c = search tests_fail

pub loop-n-preserved : goal.loop-n-preserved
loop-n-preserved c = search tests_pass

pub returns : goal.returns
returns c = search tests_end
