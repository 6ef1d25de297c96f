-- `leave::relays_left` meets its contract: after i turns the first i rows are cleared where their relay is at health 0. Assumes nothing.
use Rattle.rules.specs.Fresh.{fresh_relay}
use Rattle.rules.specs.Relays.{is_dead}
use Rattle.rules.proofs.Laws.ClearLoops.{ClearLoop}
use Rattle.epochs.proofs.leave.relays_left.Given as goal

abbrev pub invariant-loop-i : goal.invariant-loop-i
invariant-loop-i l = ClearLoop (is_dead l.clock) fresh_relay l.rows 32 l.i l.left
