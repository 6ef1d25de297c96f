-- The limits of document 01 that a commit's sums rest on, row by row, and over the tables that its checks and its storing read. Assumes nothing.
use Rattle.std.specs.Prelude.{Bool, ◌&&◌, ◌||◌, List, ℕ, ◌*◌, ◌^◌, leb, ltb, get_or}
use Rattle.lists.specs.Lists.{all_of}
use Rattle.rules.specs.declared.Volume.{Volume}
use Rattle.rules.specs.declared.Entry.{Entry}
use Rattle.rules.specs.declared.Token.{Token}
use Rattle.rules.specs.declared.Relay.{Relay}
use Rattle.rules.specs.declared.Put.{Put}
use Rattle.rules.specs.declared.Session.{Session}
use Rattle.rules.specs.Limits.{volume_rows, token_rows, put_rows, entry_rows, size_limit, capacity_limit, used_limit, last_version}
use Rattle.rules.specs.Tables.{staged, free_volume, free_entry, free_token, free_relay}
use Rattle.rules.specs.Sound.{shards_fit}
use Rattle.rows.specs.Blank.{blank_volume}

-- "K 2..16, M 1..8"
unfoldable pub volume_within : Volume → Bool
volume_within v = free_volume v || shards_fit v.k v.m

-- "size at most 2^36"
unfoldable pub entry_within : Entry → Bool
entry_within e = free_entry e || leb e.size size_limit

unfoldable pub put_within : Put → Bool
put_within p = leb p.size size_limit

-- used bytes up to 2^60
unfoldable pub token_within : Token → Bool
token_within k = free_token k || leb k.used used_limit

-- used bytes up to the largest capacity, 2^42, and no more shards held than the entry table has rows, 64
unfoldable pub relay_within : Relay → Bool
relay_within r = free_relay r || (leb r.used capacity_limit && leb r.held entry_rows)

-- "at most 8 staged puts each"
unfoldable pub session_within : Session → Bool
session_within s = leb s.count put_rows && all_of put_within (staged s)

-- the limits that the sums of the checks rest on
unfoldable pub can_check : List Volume → List Relay → Session → ℕ → Bool
can_check volumes relays s kept = session_within s && all_of volume_within volumes && all_of relay_within relays && leb kept (64 * 2 ^ 36)

-- what storing rests on: the volume's row i and the token's row j are in the tables, the volume's version is not the last, and the session and the tokens
-- are within their limits
unfoldable pub can_store : List Volume → List Token → Session → ℕ → ℕ → Bool
can_store volumes tokens s i j =
    ltb i volume_rows && ltb (get_or volumes i blank_volume).version last_version && session_within s && all_of token_within tokens && ltb j token_rows
