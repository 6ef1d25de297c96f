-- `family::passes_quota` meets its contract: its cap, then 2^60. Assumes nothing.
use Rattle.lists.specs.AnswerLaws.{either}
use Rattle.commits.proofs.family.passes_quota.Goals as goal

pub returns-then-passes_cap : goal.returns-then-passes_cap
returns-then-passes_cap c = search either

pub returns : goal.returns
returns c = search either
