-- `done` meets its contract: the kept rows are decoded. Assumes nothing.
use Rattle.transcripts.proofs.ReplayLaws.{desk_made}
use Rattle.transcripts.proofs.records.done.Goals as goal

pub returns : goal.returns
returns c = search desk_made
