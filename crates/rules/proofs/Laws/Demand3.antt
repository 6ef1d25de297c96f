-- Demand 3 of document 01. The statement is Serial.antt, over Second.antt of the crate serial; neither speaks of what stands between. Assumes nothing.
use Rattle.rules.proofs.Laws.StaysSound.{DeskInvariant}
use Rattle.rules.proofs.Laws.FreshSound.{fresh_holds}
use Rattle.rules.proofs.Laws.Reached.{call_keeps}
use Rattle.rules.specs.Serial.{Demand3}
use Rattle.rules.proofs.Laws.SerialLaws.{demand3_from}

-- "For every list of calls from a fresh desk, sessions mixed in any way, the list with refused and uncommitted session calls left out, and each
-- committed session's open and stages moved to directly before its commit, gives the same answers to all kept calls and the same desk but for the
-- session slots."
pub demand3 : Demand3
demand3 = demand3_from DeskInvariant (record { fresh = fresh_holds; kept = call_keeps; passes = λ d i. i.passes; slots = λ d i. i.slots })
