-- The relays' numbers of an entry's places, in a list of the same length for every entry. Assumes nothing.
use Rattle.std.specs.Prelude.{Bool, cond, List, ◌++◌, map, ℕ, ◌-◌, eqb, length, replicate}
use Rattle.rules.specs.declared.RelayNo.{RelayNo}
use Rattle.rules.specs.declared.Placement.{Placement}
use Rattle.rules.specs.declared.Entry.{Entry}
use Rattle.rules.specs.Tables.{free_entry}
use Rattle.rules.specs.Relays.{placed_on}

abbrev pub place_number : RelayNo → ℕ
place_number n = n.0

abbrev pub same_number : ℕ → ℕ → Bool
same_number n m = eqb m n

-- the numbers of a placement's relays, with zeros after them to 24
unfoldable pub place_numbers : Placement → List ℕ
place_numbers p = map place_number (placed_on p) ++ replicate (24 - length (placed_on p)) 0

-- the same of an entry: 24 zeros where the row is free
unfoldable pub places_of : Entry → List ℕ
places_of e = cond (free_entry e) (replicate 24 0) (place_numbers e.placement)
