-- `put_decimal` meets its contract: the digits stand at the start of what is lent. Assumes nothing.
use Rattle.transcripts.proofs.OverLaws.{rest_wrote}
use Rattle.transcripts.proofs.lines.put_decimal.Goals as goal

pub returns : goal.returns
returns c = search rest_wrote
