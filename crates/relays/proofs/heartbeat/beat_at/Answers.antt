-- `beat_at` meets its contract: each return is that of its check. Assumes nothing.
use Rattle.rules.specs.RelayCalls.{heartbeat_in}
use Rattle.lists.specs.AnswerLaws.{checks, said}
use Rattle.relays.proofs.RowAnswers.{beaten}
use Rattle.relays.proofs.heartbeat.beat_at.Goals as goal

-- success
pub returns : goal.returns
unfolding heartbeat_in
returns c = search (checks, said, beaten)
