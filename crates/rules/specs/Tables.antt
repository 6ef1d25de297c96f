-- Document 01, "What the desk holds": the rows of the tables, how a number finds its row, and tables with one part replaced. Assumes nothing.
use Rattle.std.specs.Prelude.{Bool, ◌&&◌, cond, List, [], ◌∷◌, ℕ, eqb, ltb, take}
use Rattle.lists.specs.Lists.{Hit, find}
use Rattle.lists.specs.Bytes.{same_bytes}
use Rattle.text.specs.Text.{text_bytes}
use Rattle.rules.specs.declared.VolumeNo.{VolumeNo}
use Rattle.rules.specs.declared.TokenNo.{TokenNo}
use Rattle.rules.specs.declared.RelayNo.{RelayNo}
use Rattle.rules.specs.declared.Account.{Account}
use Rattle.rules.specs.declared.Status.{Status}
use Rattle.rules.specs.declared.Volume.{Volume}
use Rattle.rules.specs.declared.Entry.{Entry}
use Rattle.rules.specs.declared.Token.{Token}
use Rattle.rules.specs.declared.Relay.{Relay}
use Rattle.rules.specs.declared.Put.{Put}
use Rattle.rules.specs.declared.Session.{Session}
use Rattle.rules.specs.declared.Tables.{Tables}

-- "Each kind counts from 1": a row of number 0 is free, an entry of volume 0, a slot of token 0
abbrev pub given : ℕ → Bool
given n = ltb 0 n

abbrev pub used_volume : Volume → Bool
used_volume v = given v.no.0

abbrev pub used_entry : Entry → Bool
used_entry e = given e.volume.0

abbrev pub used_token : Token → Bool
used_token t = given t.no.0

abbrev pub used_relay : Relay → Bool
used_relay r = given r.no.0

abbrev pub busy : Session → Bool
busy s = given s.token.0

abbrev pub free_volume : Volume → Bool
free_volume v = eqb v.no.0 0

abbrev pub free_entry : Entry → Bool
free_entry e = eqb e.volume.0 0

abbrev pub free_token : Token → Bool
free_token t = eqb t.no.0 0

abbrev pub free_relay : Relay → Bool
free_relay r = eqb r.no.0 0

-- a row's number is n, and n is a number
abbrev pub numbered : ℕ → ℕ → Bool
numbered n row = given n && eqb row n

abbrev pub is_volume : VolumeNo → Volume → Bool
is_volume n v = numbered n.0 v.no.0

abbrev pub is_token : TokenNo → Token → Bool
is_token n t = numbered n.0 t.no.0

abbrev pub is_relay : RelayNo → Relay → Bool
is_relay n r = numbered n.0 r.no.0

-- the entry lies in this volume
abbrev pub in_volume : VolumeNo → Entry → Bool
in_volume n e = numbered n.0 e.volume.0

-- the entry is this volume's at this path
unfoldable pub is_entry : VolumeNo → List ℕ → Entry → Bool
is_entry n path e = in_volume n e && same_bytes (text_bytes e.path) path

-- the put is staged at this path
unfoldable pub is_put : List ℕ → Put → Bool
is_put path p = same_bytes (text_bytes p.path) path

-- the volume's owner is this account
unfoldable pub owned_by : Account → Volume → Bool
owned_by a v = same_bytes v.owner.0 a.0

-- a session's staged puts, in staging order
abbrev pub staged : Session → List Put
staged s = take s.count s.puts

-- the row of a number
unfoldable pub volume_of : VolumeNo → Tables → Hit Volume
volume_of n t = find (is_volume n) t.volumes

unfoldable pub token_of : TokenNo → Tables → Hit Token
token_of n t = find (is_token n) t.tokens

unfoldable pub relay_of : RelayNo → Tables → Hit Relay
relay_of n t = find (is_relay n) t.relays

unfoldable pub entry_of : VolumeNo → List ℕ → Tables → Hit Entry
entry_of n path t = find (is_entry n path) t.entries

-- tables with one part replaced
abbrev pub with_clock : Tables → ℕ → Tables
with_clock t x = record { clock = x; rate = t.rate; volumes = t.volumes; entries = t.entries; tokens = t.tokens; relays = t.relays; last_volume = t.last_volume; last_token = t.last_token; last_relay = t.last_relay; deposits = t.deposits }

abbrev pub with_volumes : Tables → List Volume → Tables
with_volumes t x = record { clock = t.clock; rate = t.rate; volumes = x; entries = t.entries; tokens = t.tokens; relays = t.relays; last_volume = t.last_volume; last_token = t.last_token; last_relay = t.last_relay; deposits = t.deposits }

abbrev pub with_entries : Tables → List Entry → Tables
with_entries t x = record { clock = t.clock; rate = t.rate; volumes = t.volumes; entries = x; tokens = t.tokens; relays = t.relays; last_volume = t.last_volume; last_token = t.last_token; last_relay = t.last_relay; deposits = t.deposits }

abbrev pub with_tokens : Tables → List Token → Tables
with_tokens t x = record { clock = t.clock; rate = t.rate; volumes = t.volumes; entries = t.entries; tokens = x; relays = t.relays; last_volume = t.last_volume; last_token = t.last_token; last_relay = t.last_relay; deposits = t.deposits }

abbrev pub with_relays : Tables → List Relay → Tables
with_relays t x = record { clock = t.clock; rate = t.rate; volumes = t.volumes; entries = t.entries; tokens = t.tokens; relays = x; last_volume = t.last_volume; last_token = t.last_token; last_relay = t.last_relay; deposits = t.deposits }

abbrev pub with_last_volume : Tables → ℕ → Tables
with_last_volume t x = record { clock = t.clock; rate = t.rate; volumes = t.volumes; entries = t.entries; tokens = t.tokens; relays = t.relays; last_volume = x; last_token = t.last_token; last_relay = t.last_relay; deposits = t.deposits }

abbrev pub with_last_token : Tables → ℕ → Tables
with_last_token t x = record { clock = t.clock; rate = t.rate; volumes = t.volumes; entries = t.entries; tokens = t.tokens; relays = t.relays; last_volume = t.last_volume; last_token = x; last_relay = t.last_relay; deposits = t.deposits }

abbrev pub with_last_relay : Tables → ℕ → Tables
with_last_relay t x = record { clock = t.clock; rate = t.rate; volumes = t.volumes; entries = t.entries; tokens = t.tokens; relays = t.relays; last_volume = t.last_volume; last_token = t.last_token; last_relay = x; deposits = t.deposits }

abbrev pub with_deposits : Tables → ℕ → Tables
with_deposits t x = record { clock = t.clock; rate = t.rate; volumes = t.volumes; entries = t.entries; tokens = t.tokens; relays = t.relays; last_volume = t.last_volume; last_token = t.last_token; last_relay = t.last_relay; deposits = x }

-- a volume with some fields replaced
abbrev pub with_balance : Volume → ℕ → Volume
with_balance v x = record { no = v.no; owner = v.owner; name = v.name; k = v.k; m = v.m; cap = v.cap; status = v.status; balance = x; version = v.version; grace = v.grace; deleted = v.deleted }

abbrev pub with_version : Volume → ℕ → Volume
with_version v x = record { no = v.no; owner = v.owner; name = v.name; k = v.k; m = v.m; cap = v.cap; status = v.status; balance = v.balance; version = x; grace = v.grace; deleted = v.deleted }

-- its status, its grace count and the block of its delete
abbrev pub with_status : Volume → Status → ℕ → ℕ → Volume
with_status v s grace deleted = record { no = v.no; owner = v.owner; name = v.name; k = v.k; m = v.m; cap = v.cap; status = s; balance = v.balance; version = v.version; grace = grace; deleted = deleted }

abbrev pub with_used : Token → ℕ → Token
with_used t x = record { no = t.no; volume = t.volume; parent = t.parent; scope = t.scope; used = x }

-- a relay's used bytes and held shards
abbrev pub with_room : Relay → ℕ → ℕ → Relay
with_room r used held = record { no = r.no; capacity = r.capacity; used = used; held = held; beat = r.beat }

abbrev pub with_beat : Relay → ℕ → Relay
with_beat r x = record { no = r.no; capacity = r.capacity; used = r.used; held = r.held; beat = x }

-- the table with each row that passes the test as a fresh one
unfoldable pub cleared : {A : Type 0} → (A → Bool) → A → List A → List A
cleared p fresh [] = []
cleared p fresh (x ∷ xs) = cond (p x) fresh x ∷ cleared p fresh xs
