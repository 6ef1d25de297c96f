use Rattle.lists.specs.ByteLoopLaws.{Fills-of}
use Rattle.kept_tokens.specs.KeptTokenLaws.{numbers_in}
use Rattle.kept_tokens.proofs.find.kept_numbers.Goals as goal

pub loop-i-preserved : goal.loop-i-preserved
loop-i-preserved c = search Fills-of

pub returns : goal.returns
returns c = (search Fills-of, λ j. search (numbers_in, Fills-of))
