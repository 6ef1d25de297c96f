use Rattle.lists.specs.ByteLoopLaws.{Fills-of}
use Rattle.rows.proofs.chain.token_numbers.Goals as goal

pub loop-i-init : goal.loop-i-init
loop-i-init c = search Fills-of

pub bounds-numbers-i : goal.bounds-numbers-i
bounds-numbers-i c = search Fills-of

pub loop-i-preserved : goal.loop-i-preserved
loop-i-preserved c = search Fills-of

pub returns : goal.returns
returns c = search Fills-of
