-- Document 01, "Rent": effective size, rent and epochs. Assumes nothing.
use Rattle.std.specs.Prelude.{List, map, ℕ, ◌+◌, ◌-◌, ◌*◌, ◌/◌}
use Rattle.lists.specs.Lists.{keep, total}
use Rattle.rules.specs.declared.VolumeNo.{VolumeNo}
use Rattle.rules.specs.declared.Volume.{Volume}
use Rattle.rules.specs.declared.Entry.{Entry}
use Rattle.rules.specs.declared.Tables.{Tables}
use Rattle.rules.specs.Limits.{epoch_blocks, rent_bytes}
use Rattle.rules.specs.Tables.{in_volume}
use Rattle.rules.specs.Relays.{ceil_div}

abbrev pub size_of : Entry → ℕ
size_of e = e.size

-- the sizes of a volume's objects; their sum is the volume's raw bytes
unfoldable pub sizes_in : VolumeNo → List Entry → List ℕ
sizes_in n es = map size_of (keep (in_volume n) es)

-- "Effective size is raw × (K+M) / K (000), rounded up once for the volume."
unfoldable pub effective : ℕ → ℕ → List ℕ → ℕ
effective k m sizes = ceil_div (total sizes * (k + m)) k

-- "Rent per epoch is ceil(effective × rate / 2^20) coins"
abbrev pub rent_of : ℕ → ℕ → ℕ
rent_of rate size = ceil_div (size * rate) rent_bytes

-- one epoch's rent of a volume whose objects have these sizes
unfoldable pub rent_for : ℕ → Volume → List ℕ → ℕ
rent_for rate v sizes = rent_of rate (effective v.k v.m sizes)

-- one epoch's rent of a volume as it stands
unfoldable pub rent_now : Tables → Volume → ℕ
rent_now t v = rent_for t.rate v (sizes_in v.no t.entries)

-- "Epochs end at multiples of 3,600 blocks (H)": how many epoch ends e have old < e ≤ new
abbrev pub epoch_ends : ℕ → ℕ → ℕ
epoch_ends old new = new / epoch_blocks - old / epoch_blocks
