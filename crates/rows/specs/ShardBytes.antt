-- Laws of the bytes of an entry's shards. Assumes nothing.
use Rattle.std.specs.Prelude.{◌≡◌, List, ℕ, get_or, Option, Some, None}
use Rattle.std.proofs.Common.{sym, ◌∙◌}
use Rattle.lists.specs.Lists.{find, first_at, hit, miss}
use Rattle.lists.specs.SearchLaws.{first_row_lem, first_miss}
use Rattle.rules.specs.declared.Volume.{Volume}
use Rattle.rules.specs.declared.Entry.{Entry}
use Rattle.rules.specs.Tables.{is_volume}
use Rattle.rules.specs.Relays.{shard_size, shard_bytes}
use Rattle.rows.specs.Blank.{blank_volume}

-- the bytes of an entry's shards, by what the search for its volume found
pub shard_none : (vs : List Volume) (e : Entry) → find (is_volume e.volume) vs ≡ miss → shard_bytes vs e ≡ 0
unfolding shard_bytes
shard_none vs e h = rw h

pub shard_some : (vs : List Volume) (e : Entry) (i : ℕ) (v : Volume) → find (is_volume e.volume) vs ≡ hit i v
    → shard_bytes vs e ≡ shard_size e.size v.k
unfolding shard_bytes
shard_some vs e i v h = rw h

-- as the code comes to them: f is what the search for the index of its volume said
module _ (vs : List Volume) (e : Entry) (f : Option ℕ) (w : f ≡ first_at (is_volume e.volume) 0 vs) where
  pub bytes_none : f ≡ None → 0 ≡ shard_bytes vs e
  bytes_none n = sym (shard_none vs e (first_miss (is_volume e.volume) vs (sym w ∙ n)))

  pub bytes_at_lem : (r i : ℕ) → f ≡ Some i → r ≡ shard_size e.size (get_or vs i blank_volume).k → r ≡ shard_bytes vs e
  bytes_at_lem r i h q = q ∙ sym (shard_some vs e i _ (first_row_lem (is_volume e.volume) vs i (sym w ∙ h) blank_volume))
