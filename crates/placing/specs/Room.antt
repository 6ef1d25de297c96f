-- Document 01, "Relays": room and held shards that one object takes or gives back, and whether the machine's numbers have room for what it takes.
-- Assumes nothing.
use Rattle.std.specs.Prelude.{Bool, ◌&&◌, ◌||◌, cond, not, List, map, ℕ, ◌+◌, ◌-◌, ◌^◌, eqb, leb, Option, Some, None}
use Rattle.lists.specs.Lists.{all_of}
use Rattle.rules.specs.declared.RelayNo.{RelayNo}
use Rattle.rules.specs.declared.Placement.{Placement}
use Rattle.rules.specs.declared.Relay.{Relay}
use Rattle.rules.specs.Tables.{with_room}
use Rattle.rules.specs.Relays.{holds_shard, loaded}

-- a relay's number as the code lists it, and whether a number of such a list is n
abbrev pub relay_number : RelayNo → ℕ
relay_number n = n.0

abbrev pub is_number : ℕ → ℕ → Bool
is_number n m = eqb m n

-- the relay has a shard of the placement
abbrev pub has_shard : Placement → Relay → Bool
has_shard p r = holds_shard r.no p

-- a relay after an object with shards of so many bytes gave its room back: one shard less, or as it was
unfoldable pub lightened_by : ℕ → Placement → Relay → Relay
lightened_by bytes p r = cond (holds_shard r.no p) (with_room r (r.used - bytes) (r.held - 1)) r

-- the most bytes and shards that the code's numbers count on a relay
abbrev pub most_bytes : ℕ
most_bytes = 2 ^ 64 - 1

abbrev pub most_shards : ℕ
most_shards = 2 ^ 32 - 1

-- the relay takes no shard of the object, or its numbers have room for one
unfoldable pub can_load : ℕ → Placement → Relay → Bool
can_load bytes p r = not (holds_shard r.no p) || (leb (r.used + bytes) most_bytes && leb (r.held + 1) most_shards)

unfoldable pub can_load_all : ℕ → Placement → List Relay → Bool
can_load_all bytes p rs = all_of (can_load bytes p) rs

-- a relay, of which the Bool says whether it has a shard of the object, and the relays after the object is placed; none where a number would not fit
unfoldable pub loaded_if : Bool → ℕ → Relay → Option Relay
loaded_if has bytes r =
    let fits = not has || (leb (r.used + bytes) most_bytes && leb (r.held + 1) most_shards) in
    cond fits (Some (cond has (with_room r (r.used + bytes) (r.held + 1)) r)) None

unfoldable pub loaded_rows : ℕ → Placement → List Relay → Option (List Relay)
loaded_rows bytes p rs = cond (can_load_all bytes p rs) (Some (map (loaded bytes p) rs)) None
