-- `clear::clear_gone` meets its contract: after i turns the first i rows are cleared, and the others are as they came. Assumes nothing.
use Prim.Native.Nat.{◌-◌}
use Rattle.rules.proofs.Laws.ClearLoops.{ClearLoop}
use Rattle.kept.specs.Kept.{fresh_kept_token}
use Rattle.kept_tokens.specs.KeptTokens.{kept_gone}
use Rattle.kept_tokens.proofs.clear.clear_gone.Given as goal

abbrev pub invariant-loop-i : goal.invariant-loop-i
invariant-loop-i l = ClearLoop (kept_gone l.gone) fresh_kept_token l.rows 32 l.i l.left
