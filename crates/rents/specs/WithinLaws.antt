-- Laws of rent_within, raw_in and volume_rent: within the limits they are the rent and the raw bytes of the rules, and sound tables are within them.
-- Assumes nothing.
use Rattle.std.specs.Prelude.{◌≡◌, refl, Bool, true, false, cond, ◌&&◌, List, [], ◌∷◌, map, ℕ, ◌+◌, ◌<◌, ◌≤◌, min, leb, length, get_or, Some, None}
use Rattle.std.proofs.Common.{sym, ◌∙◌, arith, le-leb, leb-true}
use Rattle.lists.specs.Lists.{keep, sum_of, total}
use Rattle.lists.specs.TestLaws.{all_at}
use Rattle.lists.specs.SumLaws.{sum_keep, sum_le}
use Rattle.lists.specs.RowLaws.{sum_total}
use Rattle.rules.specs.declared.VolumeNo.{VolumeNo}
use Rattle.rules.specs.declared.Volume.{Volume}
use Rattle.rules.specs.declared.Entry.{Entry}
use Rattle.rules.specs.declared.Tables.{Tables}
use Rattle.rules.specs.Limits.{entry_rows, size_limit}
use Rattle.rules.specs.Fresh.{fresh_entry}
use Rattle.rules.specs.Tables.{used_volume, used_entry, in_volume}
use Rattle.rules.specs.Rent.{size_of, sizes_in, effective, rent_of, rent_for, rent_now}
use Rattle.rules.specs.Sound.{shards_fit, sound_volume, sound_entry, sound_tables}
use Rattle.rules.proofs.Laws.NumberLaws.{numbered_used}
use Rattle.rules.proofs.Laws.RowFacts.{volume_facts, entry_facts}
use Rattle.rules.proofs.Laws.SoundParts.{parts_of}
use Rattle.rents.specs.Within.{raw_limit, most_raw, rent_within, raw_in, entry_volume, sizes_at, volume_rent}

-- the effective size of one object of so many bytes is that of objects which have them together
effective_total : (k m raw : ℕ) (sizes : List ℕ) → total sizes ≡ raw → effective k m (raw ∷ []) ≡ effective k m sizes
unfolding effective total
effective_total k m raw sizes e = let z : raw + 0 ≡ total sizes = omega (arith, e) in rw z

-- within the limits it is the rent of the rules
pub rent_within_lem : (rate : ℕ) (v : Volume) (sizes : List ℕ) (raw : ℕ) → total sizes ≡ raw → shards_fit v.k v.m ≡ true → raw ≤ raw_limit
    → rent_within rate v.k v.m raw ≡ Some (rent_for rate v sizes)
unfolding rent_within rent_for
rent_within_lem rate v sizes raw e f h = rw (f, le-leb raw raw_limit h, effective_total v.k v.m raw sizes e)

-- and where it is worked out, the limits are kept
pub coins_within : (rate : ℕ) (v : Volume) (raw coins : ℕ) → rent_within rate v.k v.m raw ≡ Some coins
    → (shards_fit v.k v.m ≡ true) × (raw ≤ raw_limit)
unfolding rent_within
coins_within rate v raw coins e = go (shards_fit v.k v.m) (leb raw raw_limit) refl refl e
  where
    go : (a b : Bool) → shards_fit v.k v.m ≡ a → leb raw raw_limit ≡ b
        → cond (a && b) (Some (rent_of rate (effective v.k v.m (raw ∷ [])))) None ≡ Some coins
        → (shards_fit v.k v.m ≡ true) × (raw ≤ raw_limit)
    go true true f g q = (f, leb-true raw raw_limit g)
    go true false f g q = absurd (let z : ◌≡◌ {A = ℕ} 0 1 = cc in omega arith)
    go false b f g q = absurd (let z : ◌≡◌ {A = ℕ} 0 1 = cc in omega arith)

-- the bytes that an entry adds to a volume's
abbrev pub bytes_in : VolumeNo → Entry → ℕ
bytes_in n e = cond (in_volume n e) e.size 0

pub raw_sum : (n : VolumeNo) (es : List Entry) → total (sizes_in n es) ≡ sum_of (bytes_in n) es
unfolding sizes_in
raw_sum n es = sym (sum_total size_of (keep (in_volume n) es)) ∙ sum_keep size_of (bytes_in n) (in_volume n) es (λ e. refl)

-- the lists of the entries' numbers and sizes give a volume's bytes
sizes_of : (n : VolumeNo) (es : List Entry) → sizes_at n.0 (map entry_volume es) (map size_of es) ≡ sum_of (bytes_in n) es
unfolding sizes_at sum_of
sizes_of n [] = refl
sizes_of n (e ∷ es) = rw (sizes_of n es)

pub raw_listed : (n : VolumeNo) (es : List Entry) → min (sizes_at n.0 (map entry_volume es) (map size_of es)) most_raw ≡ raw_in n es
raw_listed n es = rw (sizes_of n es, raw_sum n es)

-- a sum that is within the limit is exact
pub raw_exact : (n : VolumeNo) (es : List Entry) → raw_in n es ≤ raw_limit → total (sizes_in n es) ≡ raw_in n es
raw_exact n es h = omega arith

-- the sum of entries whose sizes are within the limit of an object
pub raw_within : (n : VolumeNo) (es : List Entry) (d : Entry) → length es ≡ entry_rows
    → ((j : ℕ) → j < length es → used_entry (get_or es j d) ≡ true → (get_or es j d).size ≤ size_limit)
    → (total (sizes_in n es) ≡ raw_in n es) × (raw_in n es ≤ raw_limit)
raw_within n es d l f =
    let q : total (sizes_in n es) ≤ raw_limit = omega (arith, raw_sum n es, sum_le (bytes_in n) size_limit es d few, l) in
    (omega arith, omega arith)
  where
    few : (j : ℕ) → j < length es → bytes_in n (get_or es j d) ≤ size_limit
    few j h = go (in_volume n (get_or es j d)) refl
      where
        go : (b : Bool) → in_volume n (get_or es j d) ≡ b → cond b (get_or es j d).size 0 ≤ size_limit
        go true e = f j h (numbered_used n.0 (get_or es j d).volume.0 e)
        go false e = omega arith

-- a volume's rent that is worked out is the rent of the rules, whatever the tables
pub rent_exact : (t : Tables) (v : Volume) (coins : ℕ) → volume_rent t v ≡ Some coins → coins ≡ rent_now t v
unfolding volume_rent rent_now
rent_exact t v coins e =
    let raw = raw_in v.no t.entries in
    let w = coins_within t.rate v raw coins e in
    let q = rent_within_lem t.rate v (sizes_in v.no t.entries) raw (raw_exact v.no t.entries w.1) w.0 w.1 in
    cc

-- and on sound tables each volume's is worked out
pub rent_sound : (t : Tables) (v : Volume) → length t.entries ≡ entry_rows → sound_tables t ≡ true → sound_volume t v ≡ true → used_volume v ≡ true
    → volume_rent t v ≡ Some (rent_now t v)
unfolding volume_rent rent_now
rent_sound t v l s h u =
    let p = parts_of t s in
    let small =
    raw_within v.no t.entries fresh_entry l
    (λ j k w. leb-true _ size_limit (entry_facts t (get_or t.entries j fresh_entry) w (all_at (sound_entry t) t.entries p.entries j k fresh_entry)).size) in
    rent_within_lem t.rate v (sizes_in v.no t.entries) (raw_in v.no t.entries) small.0 (volume_facts t v u h).shards small.1
