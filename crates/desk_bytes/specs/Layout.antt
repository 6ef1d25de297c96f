-- The desk as bytes: every field of every row and slot, in the order of the structs, whatever the row holds. All numbers big-endian, each in as
-- many bytes as its type has: u8 1, u16 2, u32 4, u64 and usize 8. After the bytes of each part stands how many they are. Assumes nothing.
use mathlib.Core.List.{List, ◌++◌, flat_map}
use Rattle.std.specs.Prelude.{ℕ, ◌+◌, ◌*◌}
use Rattle.amount.specs.declared.Cap.{Cap}
use Rattle.amount.specs.declared.Cap.TheVariants.{Unlimited, Bytes}
use Rattle.text.specs.Text.{Text}
use Rattle.text.specs.Text.{Name}
use Rattle.text.specs.Text.{path_limit, name_limit}
use Rattle.rules.specs.declared.RelayNo.{RelayNo}
use Rattle.rules.specs.declared.Placement.{Placement}
use Rattle.rules.specs.declared.Status.{Status}
use Rattle.rules.specs.declared.Status.TheVariants.{Active, Grace, Deleted}
use Rattle.rules.specs.declared.Volume.{Volume}
use Rattle.rules.specs.declared.Entry.{Entry}
use Rattle.rules.specs.declared.Scope.{Scope}
use Rattle.rules.specs.declared.Token.{Token}
use Rattle.rules.specs.declared.Relay.{Relay}
use Rattle.rules.specs.declared.Put.{Put}
use Rattle.rules.specs.declared.Session.{Session}
use Rattle.rules.specs.declared.Tables.{Tables}
use Rattle.rules.specs.declared.Desk.{Desk}
use Rattle.rules.specs.Limits.{volume_rows, entry_rows, token_rows, relay_rows, slot_rows, put_rows, shard_places}
use Rattle.rules.specs.Scope.{mode_number}
use Rattle.journal.specs.Numbers.{bytes_of}

-- text: its 512 bytes, then its length, 8 bytes. 520 in all.
unfoldable pub text_bytes_all : Text → List ℕ
text_bytes_all t = t.bytes ++ bytes_of 8 t.len

abbrev pub text_length : ℕ
text_length = path_limit + 8

-- name: its 64 bytes, then its length, 8 bytes. 72 in all.
unfoldable pub name_bytes_all : Name → List ℕ
name_bytes_all t = t.bytes ++ bytes_of 8 t.len

abbrev pub name_length : ℕ
name_length = name_limit + 8

-- account, hash: 32 bytes.
abbrev pub hash_length : ℕ
hash_length = 32

-- A volume, token or relay number: 4 bytes.
abbrev pub relay_no_bytes : RelayNo → List ℕ
relay_no_bytes n = bytes_of 4 n.0

-- cap: one byte, 0 for unlimited and 1 for bytes, then 8 bytes: the count, or 0 for unlimited. 9 in all.
unfoldable pub cap_bytes : Cap → List ℕ
cap_bytes Unlimited = bytes_of 1 0 ++ bytes_of 8 0
cap_bytes (Bytes n) = bytes_of 1 1 ++ bytes_of 8 n

abbrev pub cap_length : ℕ
cap_length = 1 + 8

-- status: one byte, 0 Active, 1 Grace, 2 Deleted.
abbrev pub status_number : Status → ℕ
status_number Active = 0
status_number Grace = 1
status_number Deleted = 2

-- placement: 24 relay numbers (96 bytes), then its length (8). 104.
unfoldable pub placement_bytes : Placement → List ℕ
placement_bytes p = flat_map relay_no_bytes p.relays ++ bytes_of 8 p.len

abbrev pub placement_length : ℕ
placement_length = shard_places * 4 + 8

-- volume row: no 4, owner 32, name 72, k 1, m 1, cap 9, status 1, balance 8, version 4, grace 1, deleted 8. 141.
unfoldable pub volume_bytes : Volume → List ℕ
volume_bytes v =
    (bytes_of 4 v.no.0 ++ v.owner.0 ++ name_bytes_all v.name)
    ++ (bytes_of 1 v.k ++ bytes_of 1 v.m ++ cap_bytes v.cap ++ bytes_of 1 (status_number v.status))
    ++ (bytes_of 8 v.balance ++ bytes_of 4 v.version ++ bytes_of 1 v.grace ++ bytes_of 8 v.deleted)

abbrev pub volume_length : ℕ
volume_length = 4 + hash_length + name_length + 1 + 1 + cap_length + 1 + 8 + 4 + 1 + 8

-- entry row: volume 4, path 520, size 8, hash 32, placement 104. 668.
unfoldable pub entry_bytes : Entry → List ℕ
entry_bytes e =
    bytes_of 4 e.volume.0 ++ text_bytes_all e.path ++ bytes_of 8 e.size ++ e.hash.0 ++ placement_bytes e.placement

abbrev pub entry_length : ℕ
entry_length = 4 + text_length + 8 + hash_length + placement_length

-- scope: prefix 520, mode 1, cap 9, from 8, until 8; the mode is one byte, 0 read, 1 write, 2 both.
unfoldable pub scope_bytes : Scope → List ℕ
scope_bytes s =
    text_bytes_all s.prefix ++ bytes_of 1 (mode_number s.mode) ++ cap_bytes s.cap ++ bytes_of 8 s.«from» ++ bytes_of 8 s.until

abbrev pub scope_length : ℕ
scope_length = text_length + 1 + cap_length + 8 + 8

-- token row: no 4, volume 4, parent 4, prefix 520, mode 1, cap 9, from 8, until 8, used 8. 566.
unfoldable pub token_bytes : Token → List ℕ
token_bytes t =
    bytes_of 4 t.no.0 ++ bytes_of 4 t.volume.0 ++ bytes_of 4 t.parent.0 ++ scope_bytes t.scope ++ bytes_of 8 t.used

abbrev pub token_length : ℕ
token_length = 4 + 4 + 4 + scope_length + 8

-- relay row: no 4, capacity 8, used 8, held 4, beat 8. 32.
unfoldable pub relay_bytes : Relay → List ℕ
relay_bytes r = bytes_of 4 r.no.0 ++ bytes_of 8 r.capacity ++ bytes_of 8 r.used ++ bytes_of 4 r.held ++ bytes_of 8 r.beat

abbrev pub relay_length : ℕ
relay_length = 4 + 8 + 8 + 4 + 8

-- put: path 520, size 8, hash 32. 560.
unfoldable pub put_bytes : Put → List ℕ
put_bytes p = text_bytes_all p.path ++ bytes_of 8 p.size ++ p.hash.0

abbrev pub put_length : ℕ
put_length = text_length + 8 + hash_length

-- session slot: token 4, volume 4, version 4, count 8, 8 puts. 4,500.
unfoldable pub session_bytes : Session → List ℕ
session_bytes s =
    bytes_of 4 s.token.0 ++ bytes_of 4 s.volume.0 ++ bytes_of 4 s.version ++ bytes_of 8 s.count ++ flat_map put_bytes s.puts

abbrev pub session_length : ℕ
session_length = 4 + 4 + 4 + 8 + put_rows * put_length

-- desk: clock 8, rate 2, 8 volumes (1,128), 64 entries (42,752), 32 tokens (18,112), 32 relays (1,024), last_volume 4, last_token 4,
-- last_relay 4, deposits 8
unfoldable pub tables_bytes : Tables → List ℕ
tables_bytes t =
    (bytes_of 8 t.clock ++ bytes_of 2 t.rate ++ flat_map volume_bytes t.volumes ++ flat_map entry_bytes t.entries)
    ++ (flat_map token_bytes t.tokens ++ flat_map relay_bytes t.relays
    ++ (bytes_of 4 t.last_volume ++ bytes_of 4 t.last_token ++ bytes_of 4 t.last_relay ++ bytes_of 8 t.deposits))

abbrev pub tables_length : ℕ
tables_length =
    (8 + 2 + volume_rows * volume_length + entry_rows * entry_length) + (token_rows * token_length + relay_rows * relay_length + (4 + 4 + 4 + 8))

-- then 4 session slots (18,000). 81,046 bytes in all.
unfoldable pub desk_bytes : Desk → List ℕ
desk_bytes d = tables_bytes d.tables ++ flat_map session_bytes d.sessions

abbrev pub desk_length : ℕ
desk_length = tables_length + slot_rows * session_length
