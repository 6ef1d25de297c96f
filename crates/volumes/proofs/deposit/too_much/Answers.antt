-- `too_much` meets its contract: each return is that of its part. Assumes nothing.
use Rattle.lists.specs.AnswerLaws.{either}
use Rattle.volumes.proofs.deposit.too_much.Goals as goal

pub returns-then-passes : goal.returns-then-passes
returns-then-passes c = search either

pub returns : goal.returns
returns c = search either
