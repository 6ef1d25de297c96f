-- `abandon_on` meets its contract: what holds of all tables holds of these. Assumes nothing.
use Rattle.sessions.proofs.RowAnswers.{abandons}
use Rattle.sessions.proofs.abandon.abandon_on.Goals as goal

pub returns : goal.returns
returns c = search abandons
