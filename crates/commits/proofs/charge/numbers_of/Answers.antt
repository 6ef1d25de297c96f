use Rattle.lists.specs.ByteLoopLaws.{fill_step_of}
use Rattle.rows.specs.Blank.{blank_token}
use Rattle.rows.specs.Links.{token_number}
use Rattle.commits.proofs.QuotaLaws.{numbering}
use Rattle.commits.proofs.charge.numbers_of.Goals as goal

pub loop-j-preserved : goal.loop-j-preserved
loop-j-preserved c = search (fill_step_of token_number blank_token, numbering)

pub returns : goal.returns
returns c = search numbering
