-- `drop_tokens` meets its contract: after i turns the first i rows are cleared, and the others are as they came. Assumes nothing.
use Prim.Native.Nat.{◌-◌}
use Rattle.rules.specs.Fresh.{fresh_token}
use Rattle.rules.specs.VolumeCalls.{is_token_of}
use Rattle.rules.proofs.Laws.ClearLoops.{ClearLoop}
use Rattle.volumes.proofs.delete.drop_tokens.Given as goal

abbrev pub invariant-loop-i : goal.invariant-loop-i
invariant-loop-i l = ClearLoop (is_token_of l.n) fresh_token l.rows 32 l.i l.next
