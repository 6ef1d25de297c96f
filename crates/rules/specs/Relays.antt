-- Document 01, "Relays": health, which relays may take a shard, which do, and room that is taken and given back. Assumes nothing.
use Rattle.std.specs.Prelude.{Bool, ◌&&◌, ◌||◌, cond, List, [], ◌∷◌, ◌++◌, map, ℕ, ◌+◌, ◌-◌, ◌/◌, eqb, leb, ltb, length, take, replicate}
use Rattle.std.specs.Int.Count.{ones}
use Rattle.lists.specs.Lists.{bit, Hit, miss, hit, find, any_of, sum_of, bit_set}
use Rattle.rules.specs.declared.RelayNo.{RelayNo}
use Rattle.rules.specs.declared.Placement.{Placement}
use Rattle.rules.specs.declared.Volume.{Volume}
use Rattle.rules.specs.declared.Entry.{Entry}
use Rattle.rules.specs.declared.Relay.{Relay}
use Rattle.rules.specs.Limits.{full_health, eligible_health, shard_places}
use Rattle.rules.specs.Fresh.{no_relay}
use Rattle.rules.specs.Tables.{used_entry, used_relay, is_volume, with_room}

-- "Health is 100 less the blocks since the last heartbeat, at least 0"
abbrev pub health : ℕ → Relay → ℕ
health clock r = full_health - (clock - r.beat)

-- "a relay at 0"
abbrev pub is_dead : ℕ → Relay → Bool
is_dead clock r = used_relay r && eqb (health clock r) 0

-- the quotient rounded up
abbrev pub ceil_div : ℕ → ℕ → ℕ
ceil_div n d = (n + (d - 1)) / d

-- "A shard has ceil(size/K) bytes."
abbrev pub shard_size : ℕ → ℕ → ℕ
shard_size size k = ceil_div size k

-- "a relay is eligible with health at least 50 and that much capacity unused"
abbrev pub is_eligible : ℕ → ℕ → Relay → Bool
is_eligible clock bytes r =
    used_relay r && leb eligible_health (health clock r) && leb bytes (r.capacity - r.used)

-- "The eligible relays are a 32-bit set whose ones are counted": one bit for each row
unfoldable pub eligible_set : ℕ → ℕ → List Relay → ℕ
eligible_set clock bytes rs = bit_set (is_eligible clock bytes) rs

-- "the put is placed exactly when they number at least K+M": the set has too few ones
unfoldable pub too_few : ℕ → ℕ → ℕ → List Relay → Bool
too_few clock bytes wanted rs = ltb (ones (eligible_set clock bytes rs)) wanted

-- "fewest shards held first, then lowest number"
abbrev pub comes_before : Relay → Relay → Bool
comes_before a b = ltb a.held b.held || (eqb a.held b.held && ltb a.no.0 b.no.0)

-- a relay put into its place in that order
unfoldable pub in_order : Relay → List Relay → List Relay
in_order r [] = r ∷ []
in_order r (s ∷ ss) = cond (comes_before r s) (r ∷ s ∷ ss) (s ∷ in_order r ss)

-- the relays that pass the test, in that order
unfoldable pub ranked : (Relay → Bool) → List Relay → List Relay
ranked p [] = []
ranked p (r ∷ rs) = cond (p r) (in_order r (ranked p rs)) (ranked p rs)

abbrev pub number_of : Relay → RelayNo
number_of r = r.no

-- "Taken: fewest shards held first, then lowest number; shard 0 gets the first."
unfoldable pub taken : ℕ → ℕ → ℕ → List Relay → List RelayNo
taken clock bytes wanted rs = map number_of (take wanted (ranked (is_eligible clock bytes) rs))

-- "A placement record keeps up to 24 relay numbers, by shard index."
abbrev pub placement_of : List RelayNo → Placement
placement_of ns = record { relays = ns ++ replicate (shard_places - length ns) no_relay; len = length ns }

-- a placement's relays, by shard index
abbrev pub placed_on : Placement → List RelayNo
placed_on p = take p.len p.relays

abbrev pub same_relay : RelayNo → RelayNo → Bool
same_relay n m = eqb m.0 n.0

-- the placement has a shard on this relay
unfoldable pub holds_shard : RelayNo → Placement → Bool
holds_shard n p = any_of (same_relay n) (placed_on p)

-- a relay after an object with shards of so many bytes is placed: it has taken a shard, or none
unfoldable pub loaded : ℕ → Placement → Relay → Relay
loaded bytes p r = cond (holds_shard r.no p) (with_room r (r.used + bytes) (r.held + 1)) r

-- the bytes of each shard of an entry, by the K of its volume
unfoldable pub shard_bytes : List Volume → Entry → ℕ
shard_bytes vs e = of_hit (find (is_volume e.volume) vs)
  where
    of_hit : Hit Volume → ℕ
    of_hit miss = 0
    of_hit (hit i v) = shard_size e.size v.k

-- the bytes, and the shards, that an entry has on a relay
unfoldable pub bytes_on : List Volume → RelayNo → Entry → ℕ
bytes_on vs n e = cond (used_entry e && holds_shard n e.placement) (shard_bytes vs e) 0

unfoldable pub shards_on : RelayNo → Entry → ℕ
shards_on n e = bit (used_entry e && holds_shard n e.placement)

-- "Room and held shards are given back by relay number, only to a relay still in the table": a relay after these entries gave theirs back
unfoldable pub lightened : List Volume → List Entry → Relay → Relay
lightened vs gone r =
    with_room r (r.used - sum_of (bytes_on vs r.no) gone) (r.held - sum_of (shards_on r.no) gone)
