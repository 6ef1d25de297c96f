use Rattle.lists.specs.LoopLaws.{finds}
use Rattle.kept_tokens.specs.KeptTokenLaws.{find_in}
use Rattle.kept_tokens.proofs.find.find_kept.Goals as goal

pub returns-then-is_number : goal.returns-then-is_number
returns-then-is_number c = (search finds, λ j. search (find_in, finds))

pub loop-i-preserved : goal.loop-i-preserved
loop-i-preserved c = search finds

pub returns : goal.returns
returns c = (search finds, λ j. search (find_in, finds))
