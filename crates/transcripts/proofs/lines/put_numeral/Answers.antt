-- `put_numeral` meets its contract: the digits, and then the byte. Assumes nothing.
use Rattle.printed.specs.Transcript.{numeral}
use Rattle.transcripts.proofs.OverLaws.{pieces}
use Rattle.transcripts.proofs.lines.put_numeral.Goals as goal

pub returns : goal.returns
unfolding numeral
returns c = search pieces
