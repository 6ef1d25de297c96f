-- Document 01, "Rent" and "Relays": the clock goes on, epochs end, relays leave and volumes are collected. Assumes nothing.
use Rattle.std.specs.Prelude.{Bool, true, false, ◌&&◌, ◌||◌, cond, List, map, ℕ, ◌+◌, ◌-◌, min, leb, ltb}
use Rattle.lists.specs.Lists.{any_of, keep}
use Rattle.rules.specs.declared.VolumeNo.{VolumeNo}
use Rattle.rules.specs.declared.Status.{Status}
use Rattle.rules.specs.declared.Status.TheVariants.{Active, Grace, Deleted}
use Rattle.rules.specs.declared.Volume.{Volume}
use Rattle.rules.specs.declared.Entry.{Entry}
use Rattle.rules.specs.declared.Token.{Token}
use Rattle.rules.specs.declared.Tables.{Tables}
use Rattle.rules.specs.declared.TablesOutcome.{TablesOutcome}
use Rattle.rules.specs.Limits.{clock_limit, deleted_blocks, grace_end}
use Rattle.rules.specs.Numbers.{CLOCK}
use Rattle.rules.specs.Fresh.{fresh_volume, fresh_token, fresh_relay}
use Rattle.rules.specs.Tables.{used_volume, used_token, is_volume, with_clock, with_volumes, with_tokens, with_relays, with_balance, with_status, cleared}
use Rattle.rules.specs.Relays.{is_dead}
use Rattle.rules.specs.Rent.{rent_now, epoch_ends}
use Rattle.rules.specs.VolumeCalls.{drop_entries}
use Rattle.rules.specs.Outcome.{refused, accepted}

-- "Advance takes a relay at 0 out of the table, and its row is free."
unfoldable pub relays_leave : Tables → Tables
relays_leave t = with_relays t (cleared (is_dead t.clock) fresh_relay t.relays)

-- what a volume pays at an epoch end: "ACTIVE pays, or if short pays nothing"; GRACE_PERIOD likewise; "DELETED pays what it has, up to the rent"
abbrev pub paid_of : Status → ℕ → ℕ → ℕ
paid_of Active rent balance = cond (leb rent balance) rent 0
paid_of Grace rent balance = cond (leb rent balance) rent 0
paid_of Deleted rent balance = min rent balance

-- what becomes of it: "becomes GRACE_PERIOD with count 1; GRACE_PERIOD pays and is ACTIVE with count 0, or adds 1"
abbrev pub standing : Status → Bool → Volume → Volume
standing Active true v = v
standing Active false v = with_status v Grace 1 v.deleted
standing Grace true v = with_status v Active 0 v.deleted
standing Grace false v = with_status v Grace (v.grace + 1) v.deleted
standing Deleted paid v = v

-- a volume at an epoch end, where its rent is this
unfoldable pub after_rent : ℕ → Volume → Volume
after_rent rent v =
    with_balance (standing v.status (leb rent v.balance) v) (v.balance - paid_of v.status rent v.balance)

-- a row of the volume table at an epoch end
unfoldable pub settled : Tables → Volume → Volume
settled t v = cond (used_volume v) (after_rent (rent_now t v) v) v

-- "When advance reaches or crosses one, then for each volume"
unfoldable pub settle : Tables → Tables
settle t = with_volumes t (map (settled t) t.volumes)

-- "collected at 3 (H)"
abbrev pub grace_spent : Status → ℕ → Bool
grace_spent Active grace = false
grace_spent Grace grace = leb grace_end grace
grace_spent Deleted grace = false

-- "each DELETED volume whose delete lies 7,200 blocks or more back"
abbrev pub is_overdue : ℕ → Status → ℕ → Bool
is_overdue clock Active deleted = false
is_overdue clock Grace deleted = false
is_overdue clock Deleted deleted = leb (deleted + deleted_blocks) clock

-- the volume is collected now
unfoldable pub is_due : ℕ → Volume → Bool
is_due clock v = used_volume v && (grace_spent v.status v.grace || is_overdue clock v.status v.deleted)

-- a number is that of one of these volumes
unfoldable pub is_one_of : List Volume → VolumeNo → Bool
is_one_of vs n = any_of (is_volume n) vs

abbrev pub entry_of_one : List Volume → Entry → Bool
entry_of_one vs e = is_one_of vs e.volume

abbrev pub token_of_one : List Volume → Token → Bool
token_of_one vs k = used_token k && is_one_of vs k.volume

-- "GARBAGE_COLLECTING is done at once: entries, tokens and row go, the balance leaves the desk to the owner."
unfoldable pub collect : (Volume → Bool) → Tables → Tables
collect p t =
    let gone = keep p t.volumes in
    with_volumes
    (with_tokens (drop_entries (entry_of_one gone) t) (cleared (token_of_one gone) fresh_token t.tokens))
    (cleared p fresh_volume t.volumes)

-- the tables at an epoch end, or between two
unfoldable pub at_epoch : Bool → Tables → Tables
at_epoch true t = settle t
at_epoch false t = t

-- the clock at the block, relays gone, rents paid, and "Last, at every advance" the volumes that are due
unfoldable pub advanced : Tables → ℕ → Tables
advanced t block =
    collect (is_due block) (at_epoch (leb 1 (epoch_ends t.clock block)) (relays_leave (with_clock t block)))

-- 16: "below the clock, above 2^40, or two or more epoch ends e with old < e ≤ new"
abbrev pub bad_block : ℕ → ℕ → Bool
bad_block old new = ltb new old || ltb clock_limit new || leb 2 (epoch_ends old new)

-- "01 advance | block | 16 | block"
unfoldable pub advance_rule : ℕ → Tables → TablesOutcome
advance_rule block t = cond (bad_block t.clock block) (refused t CLOCK) (accepted block (advanced t block))
