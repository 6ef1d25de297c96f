-- Document 01, "Rent": one epoch's rent, worked out in the machine's numbers. K, M and the raw bytes of a volume in use are within these limits on sound tables, and
-- there it is the rent of the rules (WithinLaws). Assumes nothing.
use Rattle.std.specs.Prelude.{◌&&◌, cond, List, [], ◌∷◌, ℕ, ◌+◌, ◌-◌, ◌*◌, ◌^◌, min, leb, Option, Some, None}
use Rattle.lists.specs.Lists.{total}
use Rattle.rules.specs.declared.VolumeNo.{VolumeNo}
use Rattle.rules.specs.declared.Volume.{Volume}
use Rattle.rules.specs.declared.Entry.{Entry}
use Rattle.rules.specs.declared.Tables.{Tables}
use Rattle.rules.specs.Tables.{numbered}
use Rattle.rules.specs.Rent.{sizes_in, effective, rent_of}
use Rattle.rules.specs.Sound.{shards_fit}

-- above the bytes of 72 objects of 2^36: 64 entries and 8 staged puts
abbrev pub raw_limit : ℕ
raw_limit = 2 ^ 43

-- the most that the code's numbers count
abbrev pub most_raw : ℕ
most_raw = 2 ^ 64 - 1

-- no fewer than the effective bytes of so many raw ones, with K+M up to 24; times any rate it is below 2^64
abbrev pub most_effective : ℕ
most_effective = 24 * 2 ^ 43 + 1

-- "Rent per epoch is ceil(effective × rate / 2^20) coins", of so many raw bytes in shards of K and M; none past the limits
unfoldable pub rent_within : ℕ → ℕ → ℕ → ℕ → Option ℕ
rent_within rate k m raw = cond (shards_fit k m && leb raw raw_limit) (Some (rent_of rate (effective k m (raw ∷ [])))) None

-- a volume's raw bytes, as a sum that stays at 2^64 - 1 where it would pass it
abbrev pub raw_in : VolumeNo → List Entry → ℕ
raw_in n es = min (total (sizes_in n es)) most_raw

-- the number of an entry's volume
abbrev pub entry_volume : Entry → ℕ
entry_volume e = e.volume.0

-- the sizes at the places where the number is n, added up; nothing where n is 0; the shorter list ends it
unfoldable pub sizes_at : ℕ → List ℕ → List ℕ → ℕ
sizes_at n [] sizes = 0
sizes_at n (m ∷ ms) [] = 0
sizes_at n (m ∷ ms) (size ∷ sizes) = cond (numbered n m) size 0 + sizes_at n ms sizes

-- one epoch's rent of a volume as it stands
unfoldable pub volume_rent : Tables → Volume → Option ℕ
volume_rent t v = rent_within t.rate v.k v.m (raw_in v.no t.entries)
