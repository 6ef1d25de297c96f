-- `put_stop_line` meets its contract: the word, the records read, and then the number. Assumes nothing.
use Rattle.printed.specs.Transcript.{last_line}
use Rattle.transcripts.proofs.OverLaws.{three}
use Rattle.transcripts.proofs.lines.put_stop_line.Goals as goal

pub returns : goal.returns
unfolding last_line
returns c = search three
