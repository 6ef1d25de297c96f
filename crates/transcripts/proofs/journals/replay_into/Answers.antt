use Rattle.std.proofs.Common.{rules}
use Rattle.transcripts.proofs.ReplayAnswers.{answer_told}
use Rattle.transcripts.proofs.journals.replay_into.Goals as goal

pub returns-clause-answer : goal.returns-clause-answer
returns-clause-answer c = search (answer_told, rules)
