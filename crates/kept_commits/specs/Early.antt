-- A commit whose first checks are asked before its limits, and these checks by the row of the session's token. Assumes nothing.
use Rattle.std.specs.Prelude.{cond, not, List, ℕ, eqb}
use Rattle.lists.specs.Lists.{Hit, hit, miss, find}
use Rattle.rules.specs.declared.Volume.{Volume}
use Rattle.rules.specs.declared.Token.{Token}
use Rattle.rules.specs.declared.Session.{Session}
use Rattle.rules.specs.declared.Tables.{Tables}
use Rattle.rules.specs.declared.SlotOutcome.{SlotOutcome}
use Rattle.rules.specs.Numbers.{NO_VOLUME, SESSION}
use Rattle.rules.specs.Tables.{busy, is_volume}
use Rattle.rules.specs.Outcome.{slot_refused}
use Rattle.first_checks.specs.Early.{early_token, early_number}
use Rattle.commits.specs.Within.{commit_within}

-- by the number of its first checks, a commit is refused, or done within its limits
abbrev pub early_or : Tables → Session → ℕ → SlotOutcome
early_or t s n = cond (eqb n 0) (commit_within t s) (slot_refused t s n)

-- a commit whose first checks are asked before its limits: on tables past their limits it may be refused by those checks, where the work
-- of a commit answers 1
unfoldable pub commit_early : Tables → Session → SlotOutcome
commit_early t s = early_or t s (early_number t.clock t.volumes t.tokens s)

-- the first checks, where h is the row of the token: 2, then 4, 5, 8, 9 and 21
unfoldable pub early_at : ℕ → Session → Hit Token → Hit Volume → ℕ
early_at clock s h miss = NO_VOLUME
early_at clock s h (hit i v) = early_token clock s v h

-- 19 before them
unfoldable pub early_row : ℕ → List Volume → Session → Hit Token → ℕ
early_row clock volumes s h = cond (not (busy s)) SESSION (early_at clock s h (find (is_volume s.volume) volumes))
