-- `put_record_line` meets its contract: place, answer and value, one after another. Assumes nothing.
use Rattle.printed.specs.Transcript.{record_line}
use Rattle.transcripts.proofs.OverLaws.{three}
use Rattle.transcripts.proofs.lines.put_record_line.Goals as goal

pub returns : goal.returns
unfolding record_line
returns c = search three
