use Rattle.lists.specs.LoopLaws.{finds, find_here_row, find_on_row}
use borrow.Author.Tests.{eq-eqb, ne_eqb}
use Rattle.kept_tokens.specs.KeptTokens.{blank_kept}
use Rattle.kept_tokens.specs.KeptTokenLaws.{free_in}
use Rattle.kept_tokens.proofs.find.free_kept.Goals as goal

pub returns-then-rows-i-eq0 : goal.returns-then-rows-i-eq0
returns-then-rows-i-eq0 c = (search (find_here_row blank_kept, eq-eqb, finds), λ j. search (free_in, find_here_row blank_kept, eq-eqb, finds))

pub loop-i-preserved : goal.loop-i-preserved
loop-i-preserved c = search (find_on_row blank_kept, ne_eqb, finds)

pub returns : goal.returns
returns c = (search finds, λ j. search (free_in, finds))
