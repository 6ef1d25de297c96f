-- Open and stage where the token's row is at hand: the rule of the row, if there is one, whether or not it is a row of the tables. Where it is the
-- row that the tables have, these are the rules of open and stage (RowLaws). Assumes nothing.
use Rattle.std.specs.Prelude.{◌&&◌, cond, not, List, ℕ, leb}
use Rattle.lists.specs.Lists.{Hit}
use Rattle.text.specs.Text.{is_path}
use Rattle.rules.specs.declared.Hash.{Hash}
use Rattle.rules.specs.declared.Token.{Token}
use Rattle.rules.specs.declared.Session.{Session}
use Rattle.rules.specs.declared.Tables.{Tables}
use Rattle.rules.specs.declared.SlotOutcome.{SlotOutcome}
use Rattle.rules.specs.Limits.{size_limit}
use Rattle.rules.specs.Numbers.{BAD, SESSION}
use Rattle.rules.specs.Tables.{busy}
use Rattle.rules.specs.Outcome.{slot_refused}
use Rattle.rules.specs.SessionCalls.{open_token, stage_token}

-- open, where h is the token's row, if there is one
unfoldable pub open_found : Tables → Session → Hit Token → SlotOutcome
open_found t s h = cond (busy s) (slot_refused t s SESSION) (open_token t s h)

-- stage, where row is the row of the session's token, if there is one
unfoldable pub stage_found : List ℕ → ℕ → Hash → Tables → Session → Hit Token → SlotOutcome
stage_found path size h t s row =
    cond (not (is_path path && leb size size_limit)) (slot_refused t s BAD)
    (cond (not (busy s)) (slot_refused t s SESSION)
    (stage_token t s path size h row))
