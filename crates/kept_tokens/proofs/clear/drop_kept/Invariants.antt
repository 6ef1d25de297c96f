-- `clear::drop_kept` meets its contract: after i turns the first i rows are cleared, and the others are as they came. Assumes nothing.
use Prim.Native.Nat.{◌-◌}
use Rattle.rules.proofs.Laws.ClearLoops.{ClearLoop}
use Rattle.kept.specs.Kept.{fresh_kept_token}
use Rattle.kept_tokens.specs.KeptTokens.{is_kept_of}
use Rattle.kept_tokens.proofs.clear.drop_kept.Given as goal

abbrev pub invariant-loop-i : goal.invariant-loop-i
invariant-loop-i l = ClearLoop (is_kept_of l.n) fresh_kept_token l.rows 32 l.i l.next
