-- The limits of document 01 that a commit's sums rest on. On tables and a running session within them every sum fits the machine's numbers; past
-- them the work of a commit answers 1, as 01 has it of "a desk .. that breaks a limit of this paper". A sound desk whose entry table has its 64
-- rows is within them (WithinLaws). Assumes nothing.
use Rattle.std.specs.Prelude.{Bool, ◌&&◌, cond, not}
use Rattle.lists.specs.Lists.{all_of}
use Rattle.rules.specs.declared.Session.{Session}
use Rattle.rules.specs.declared.Tables.{Tables}
use Rattle.rules.specs.declared.SlotOutcome.{SlotOutcome}
use Rattle.rules.specs.Numbers.{BAD, SESSION}
use Rattle.rules.specs.Tables.{busy, volume_of}
use Rattle.rules.specs.Outcome.{slot_refused}
use Rattle.rules.specs.Commit.{commit_volume}
use Rattle.surveys.specs.RowLimits.{volume_within, entry_within, token_within, relay_within, session_within}

unfoldable pub in_limits : Tables → Session → Bool
in_limits t s =
    session_within s && all_of volume_within t.volumes && all_of entry_within t.entries && all_of token_within t.tokens
    && all_of relay_within t.relays

-- the work of a commit on any tables and any session: 19 for an idle one, then 1 past the limits, and within them the rule
unfoldable pub commit_within : Tables → Session → SlotOutcome
commit_within t s =
    cond (not (busy s)) (slot_refused t s SESSION)
    (cond (not (in_limits t s)) (slot_refused t s BAD) (commit_volume t s (volume_of s.volume t)))
