-- Document 01, "Rent": an advance in the machine's numbers, for every table. Where an epoch ends and a volume cannot be settled in them, the answer
-- is 1 and nothing changes; on sound tables each can, and it is the rule's (WorkLaws). Assumes nothing.
use Rattle.std.specs.Prelude.{◌≡◌, Bool, true, false, ◌&&◌, ◌||◌, cond, not, List, map, ℕ, ◌-◌, ◌^◌, leb, ltb, Option, Some, None}
use Rattle.lists.specs.Lists.{all_of, any_of}
use Rattle.rules.specs.declared.Volume.{Volume}
use Rattle.rules.specs.declared.Tables.{Tables}
use Rattle.rules.specs.declared.TablesOutcome.{TablesOutcome}
use Rattle.rules.specs.Numbers.{BAD, CLOCK}
use Rattle.rules.specs.Tables.{used_volume, with_clock}
use Rattle.rules.specs.Rent.{size_of, epoch_ends}
use Rattle.rules.specs.Outcome.{refused, accepted}
use Rattle.rules.specs.Advance.{settled, bad_block, advanced, is_due, relays_leave, at_epoch}
use Rattle.rents.specs.Within.{raw_in, entry_volume, volume_rent}

-- the most that the code's grace count holds
abbrev pub most_grace : ℕ
most_grace = 2 ^ 8 - 1

abbrev pub is_worked_out : Option ℕ → Bool
is_worked_out (Some coins) = true
is_worked_out None = false

-- the parts of the tables that the rents are worked out from: ms and sizes are the entries' volumes and sizes
pub record RentParts (t : Tables) (rate : ℕ) (rows : List Volume) (ms sizes : List ℕ) : Type 0 where
  pub rate_of : t.rate ≡ rate
  pub rows_of : t.volumes ≡ rows
  pub volumes_of : ms ≡ map entry_volume t.entries
  pub sizes_of : sizes ≡ map size_of t.entries

-- a free row, or a volume whose rent is worked out and whose grace count has room
unfoldable pub can_settle : Tables → Volume → Bool
can_settle t v = not (used_volume v) || (is_worked_out (volume_rent t v) && ltb v.grace most_grace)

unfoldable pub can_settle_all : Tables → Bool
can_settle_all t = all_of (can_settle t) t.volumes

-- a volume, and the volumes, at an epoch end; none where one cannot be settled
unfoldable pub settled_row : Tables → Volume → Option Volume
settled_row t v = cond (can_settle t v) (Some (settled t v)) None

-- r is the volume at an epoch end, at this rate and of so many raw bytes
pub record RowSettled (rate raw : ℕ) (v : Volume) (r : Option Volume) : Type 0 where
  pub told : (t : Tables) → rate ≡ t.rate → raw ≡ raw_in v.no t.entries → r ≡ settled_row t v

unfoldable pub settled_rows : Tables → Option (List Volume)
settled_rows t = cond (can_settle_all t) (Some (map (settled t) t.volumes)) None

-- r is the volumes at an epoch end, whatever tables have these parts
pub record RowsSettled (rate : ℕ) (rows : List Volume) (ms sizes : List ℕ) (r : Option (List Volume)) : Type 0 where
  pub told : (t : Tables) → RentParts t rate rows ms sizes → r ≡ settled_rows t

-- the volumes at a block: at an epoch end, or as they are where none is reached
unfoldable pub settled_at : ℕ → Tables → Option (List Volume)
settled_at block t = cond (leb 1 (epoch_ends t.clock block)) (settled_rows t) (Some t.volumes)

-- r is that, whatever tables have these parts
pub record AtSettled (block clock rate : ℕ) (rows : List Volume) (ms sizes : List ℕ) (r : Option (List Volume)) : Type 0 where
  pub told : (t : Tables) → t.clock ≡ clock → RentParts t rate rows ms sizes → r ≡ settled_at block t

-- no epoch ends, or every volume can be settled
unfoldable pub can_advance : ℕ → Tables → Bool
can_advance block t = not (leb 1 (epoch_ends t.clock block)) || can_settle_all t

-- "01 advance | block | 16 | block", and 1 where a volume cannot be settled in the machine's numbers
unfoldable pub advance_within : ℕ → Tables → TablesOutcome
advance_within block t =
    cond (bad_block t.clock block) (refused t CLOCK)
    (cond (can_advance block t) (accepted block (advanced t block)) (refused t BAD))

-- the same before volumes are collected: the clock at the block, the relays that stay, and the volumes after their rents
unfoldable pub pass_within : ℕ → Tables → TablesOutcome
pass_within block t =
    cond (bad_block t.clock block) (refused t CLOCK)
    (cond (can_advance block t) (accepted block (at_epoch (leb 1 (epoch_ends t.clock block)) (relays_leave (with_clock t block)))) (refused t BAD))

-- whether volumes are collected after it: the advance is made, and one of them is due
unfoldable pub due_within : ℕ → Tables → Bool
due_within block t = not (bad_block t.clock block) && (can_advance block t && any_of (is_due block) (pass_within block t).tables.volumes)
