-- `put_end_line` meets its contract: the word, and then the records read. Assumes nothing.
use Rattle.printed.specs.Transcript.{last_line}
use Rattle.transcripts.proofs.OverLaws.{pieces}
use Rattle.transcripts.proofs.lines.put_end_line.Goals as goal

pub returns : goal.returns
unfolding last_line
returns c = search pieces
