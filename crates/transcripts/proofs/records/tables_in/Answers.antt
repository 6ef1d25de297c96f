-- `tables_in` meets its contract: the kept rows are decoded. Assumes nothing.
use Rattle.transcripts.proofs.ReplayLaws.{tables_made}
use Rattle.transcripts.proofs.records.tables_in.Goals as goal

pub returns : goal.returns
returns c = search tables_made
