-- `due::clear_due` meets its contract: after i turns the first i rows are cleared where they are due. Assumes nothing.
use Rattle.rules.specs.Fresh.{fresh_volume}
use Rattle.rules.specs.Advance.{is_due}
use Rattle.rules.proofs.Laws.ClearLoops.{ClearLoop}
use Rattle.epochs.proofs.due.clear_due.Given as goal

abbrev pub invariant-loop-i : goal.invariant-loop-i
invariant-loop-i l = ClearLoop (is_due l.clock) fresh_volume l.rows 8 l.i l.left
