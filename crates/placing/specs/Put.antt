-- Document 01, "Relays": the placing of one put, as place_all does it put by put. It is not placed where K+M is above the 24 places of a placement
-- or the machine's numbers have no room; for K and M in their ranges, on relays that hold no more than a desk can have, neither is so (PutLaws). Assumes nothing.
use Rattle.std.specs.Prelude.{true, false, cond, List, map, ℕ, ◌+◌, ltb}
use Rattle.rules.specs.declared.Placement.{Placement}
use Rattle.rules.specs.declared.Relay.{Relay}
use Rattle.rules.specs.Limits.{shard_places}
use Rattle.rules.specs.Fresh.{fresh_placement}
use Rattle.rules.specs.Relays.{shard_size, too_few, taken, placement_of, loaded}
use Rattle.placing.specs.declared.PlacedPut.{PlacedPut}
use Rattle.placing.specs.Room.{can_load_all}

-- no placement, and the relays as they were
unfoldable pub not_placed : List Relay → PlacedPut
not_placed rs = record { placed = false; place = fresh_placement; rows = rs }

-- the relays of a placement take their shards; none does where a number has no room
unfoldable pub took_place : ℕ → Placement → List Relay → PlacedPut
took_place bytes p rs = cond (can_load_all bytes p rs) (record { placed = true; place = p; rows = map (loaded bytes p) rs }) (not_placed rs)

-- one put on K+M relays
unfoldable pub placed_put : ℕ → ℕ → ℕ → ℕ → List Relay → PlacedPut
placed_put clock k m size rs =
    let bytes = shard_size size k in
    cond (ltb shard_places (k + m)) (not_placed rs)
    (cond (too_few clock bytes (k + m) rs) (not_placed rs) (took_place bytes (placement_of (taken clock bytes (k + m) rs)) rs))
