-- `collect::clear_tokens` meets its contract: after i turns the first i rows are cleared where they are one of these volumes'. Assumes nothing.
use Rattle.rules.specs.Fresh.{fresh_token}
use Rattle.rules.proofs.Laws.ClearLoops.{ClearLoop}
use Rattle.epochs.specs.Gone.{token_gone}
use Rattle.epochs.proofs.collect.clear_tokens.Given as goal

abbrev pub invariant-loop-i : goal.invariant-loop-i
invariant-loop-i l = ClearLoop (token_gone l.gone) fresh_token l.rows 32 l.i l.left
