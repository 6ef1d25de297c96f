use Prim.Native.Nat.{ℕ}
use Rattle.lists.specs.LoopLaws.{clashes, clash_found, clash_step}
use Rattle.sound_rows.proofs.numbers.numbers_differ.Goals as goal

pub returns-then-number_again : goal.returns-then-number_again
returns-then-number_again c = search (clash_found {A = ℕ} 0, clashes)

pub loop-i-preserved : goal.loop-i-preserved
loop-i-preserved c = search (clash_step {A = ℕ} 0, clashes)

pub returns : goal.returns
returns c = search clashes
