-- `answers::refuse` meets its contract: the refusal beside the tokens as they are. Assumes nothing.
use Rattle.tokens.proofs.RowAnswers.{refuses}
use Rattle.tokens.proofs.answers.refuse.Goals as goal

pub returns : goal.returns
returns c = search refuses
