-- Document 01, "Checked by hand", "Rent" and "Relays": cases worked out from the definitions beside the starred ones (Starred.antt). Assumes
-- nothing.
use Rattle.std.specs.Prelude.{◌≡◌, refl, true, false, List, [], ◌∷◌, ℕ, ◌^◌, replicate}
use Rattle.lists.specs.Lists.{total, bit_set}
use Rattle.std.specs.Int.Count.{ones}
use Rattle.rules.specs.declared.Relay.{Relay}
use Rattle.rules.specs.Fresh.{fresh_relay}
use Rattle.rules.specs.Relays.{health, is_eligible, eligible_set, too_few}
use Rattle.rules.specs.Rent.{effective, rent_of}

-- 4+2: "1 MiB: rent 150"
pub mebibyte_rent : rent_of 100 (effective 4 2 (2 ^ 20 ∷ [])) ≡ 150
unfolding effective total
mebibyte_rent = refl

-- rounded up once for the volume, not for each object, then once for the rent: 3+1 with 7,864 raw bytes in three objects is 2 coins
pub rounded_twice : effective 3 1 (7000 ∷ 862 ∷ 2 ∷ []) ∷ rent_of 100 (effective 3 1 (7000 ∷ 862 ∷ 2 ∷ [])) ∷ [] ≡ 10486 ∷ 2 ∷ []
unfolding effective total
rounded_twice = refl

-- a relay of this number with so many shards, whose last heartbeat was at 1,000
unfoldable pub relay : ℕ → ℕ → Relay
relay n held = record { no = record { 0 = n }; capacity = 1000; used = 0; held = held; beat = 1000 }

-- in another order than that of their numbers
unfoldable pub six : List Relay
unfolding relay
six = relay 1 3 ∷ relay 6 0 ∷ relay 3 0 ∷ relay 4 2 ∷ relay 5 1 ∷ relay 2 0 ∷ replicate 26 fresh_relay

-- a heartbeat at 1000: health 0 at 1100
pub no_health : health 1100 (relay 1 3) ≡ 0
unfolding relay
no_health = refl

-- a shard of more bytes than are unused
pub too_small : is_eligible 1050 1000 (relay 1 3) ∷ is_eligible 1050 1001 (relay 1 3) ∷ [] ≡ true ∷ false ∷ []
unfolding relay
too_small = refl

-- six bits at 1050, none at 1051; six relays are enough for six shards and too few for seven
pub eligible_sets : eligible_set 1050 10 six ∷ eligible_set 1051 10 six ∷ [] ≡ 63 ∷ 0 ∷ []
unfolding six eligible_set bit_set
eligible_sets = refl

pub enough : too_few 1050 10 6 six ∷ too_few 1050 10 7 six ∷ [] ≡ false ∷ true ∷ []
unfolding six too_few eligible_set bit_set ones
enough = refl
