-- Document 01, "Answered 1 before all else": the test of the desk, as a computed test. Each part stands under the words that it renders.
-- A free row is free whatever else it holds; bytes after a text's length and places after a placement's length are not read. Assumes nothing.
use Rattle.std.specs.Prelude.{Bool, false, ◌&&◌, ◌||◌, not, ℕ, ◌+◌, eqb, leb}
use Rattle.lists.specs.Lists.{Hit, miss, hit, find, all_of, any_of, sum_of, no_clash}
use Rattle.lists.specs.Bytes.{same_bytes}
use Rattle.text.specs.Text.{within, is_path, is_prefix, holds, text_bytes, name_bytes, holds_name}
use Rattle.rules.specs.declared.VolumeNo.{VolumeNo}
use Rattle.rules.specs.declared.RelayNo.{RelayNo}
use Rattle.rules.specs.declared.Placement.{Placement}
use Rattle.rules.specs.declared.Status.{Status}
use Rattle.rules.specs.declared.Status.TheVariants.{Active, Grace, Deleted}
use Rattle.rules.specs.declared.Volume.{Volume}
use Rattle.rules.specs.declared.Entry.{Entry}
use Rattle.rules.specs.declared.Token.{Token}
use Rattle.rules.specs.declared.Relay.{Relay}
use Rattle.rules.specs.declared.Put.{Put}
use Rattle.rules.specs.declared.Session.{Session}
use Rattle.rules.specs.declared.Tables.{Tables}
use Rattle.rules.specs.declared.Desk.{Desk}
use Rattle.rules.specs.Limits.{put_rows, least_k, most_k, least_m, most_m, size_limit, capacity_limit, used_limit, clock_limit, balance_limit, deposits_limit, last_number, deepest}
use Rattle.rules.specs.Tables.{used_volume, busy, free_volume, free_entry, free_token, free_relay, is_volume, is_token, numbered, staged}
use Rattle.rules.specs.Scope.{cap_fits, depth}
use Rattle.rules.specs.Relays.{placed_on, same_relay, bytes_on, shards_on}

-- "a number not yet given": numbers are given from 1 up to the last one
abbrev pub is_given : ℕ → ℕ → Bool
is_given last n = within 1 last n

-- the grace count that each status has, below 3, at which the volume is collected: 0 when ACTIVE, 1 or 2 in GRACE_PERIOD, 0 to 2 when DELETED
abbrev pub sound_grace : Status → ℕ → Bool
sound_grace Active grace = eqb grace 0
sound_grace Grace grace = within 1 2 grace
sound_grace Deleted grace = leb grace 2

-- and "a .. delete after the clock", whatever the status
abbrev pub sound_status : ℕ → Status → ℕ → ℕ → Bool
sound_status clock s grace deleted = sound_grace s grace && leb deleted clock

-- "K 2..16, M 1..8 (000)"
abbrev pub shards_fit : ℕ → ℕ → Bool
shards_fit k m = within least_k most_k k && within least_m most_m m

-- a volume's row: its number given, "name 1 to 64 bytes", K and M, its cap, "balance above 10^15"
unfoldable pub sound_volume : Tables → Volume → Bool
sound_volume t v =
    free_volume v
    || (is_given t.last_volume v.no.0 && holds_name v.name && shards_fit v.k v.m && cap_fits v.cap
    && leb v.balance balance_limit
    && sound_status t.clock v.status v.grace v.deleted)

-- "a number .. held twice"
abbrev pub same_volume : Volume → Volume → Bool
same_volume a b = numbered a.no.0 b.no.0

-- "an owner's volume name .. held twice"
unfoldable pub same_name : Volume → Volume → Bool
same_name a b =
    used_volume a && used_volume b && same_bytes a.owner.0 b.owner.0 && same_bytes (name_bytes a.name) (name_bytes b.name)

-- a relay's number was given; the relay may have left the table
abbrev pub relay_given : Tables → RelayNo → Bool
relay_given t n = is_given t.last_relay n.0

-- "a placement not of K+M different relays", each of a number that was given
unfoldable pub sound_placement : Tables → Volume → Placement → Bool
sound_placement t v p =
    eqb p.len (v.k + v.m) && all_of (relay_given t) (placed_on p) && no_clash same_relay (placed_on p)

-- "a volume .. not in the table" of an entry; else its placement against the volume's K and M
unfoldable pub sound_in : Tables → Placement → Hit Volume → Bool
sound_in t p miss = false
sound_in t p (hit i v) = sound_placement t v p

-- an entry's row: "path, size at most 2^36", its volume and its placement
unfoldable pub sound_entry : Tables → Entry → Bool
sound_entry t e =
    free_entry e
    || (holds is_path e.path && leb e.size size_limit && sound_in t e.placement (find (is_volume e.volume) t.volumes))

-- "a volume's .. path held twice"
unfoldable pub same_entry : Entry → Entry → Bool
same_entry a b = numbered a.volume.0 b.volume.0 && same_bytes (text_bytes a.path) (text_bytes b.path)

-- "a volume or parent not in the table" of a token; a root has no parent
unfoldable pub volume_there : Tables → VolumeNo → Bool
volume_there t n = any_of (is_volume n) t.volumes

unfoldable pub parent_there : Tables → Token → Bool
parent_there t k = eqb k.parent.0 0 || any_of (is_token k.parent) t.tokens

-- a token's row: its number given, its prefix and cap, "from > until", its volume and parent, "a parent chain in a ring" or of more than 8
-- tokens, used bytes up to 2^60
unfoldable pub sound_token : Tables → Token → Bool
sound_token t k =
    free_token k
    || (is_given t.last_token k.no.0 && holds is_prefix k.scope.prefix && cap_fits k.scope.cap
    && leb k.scope.«from» k.scope.until
    && volume_there t k.volume
    && parent_there t k
    && leb (depth t.tokens k) deepest
    && leb k.used used_limit)

-- "a number .. held twice"
abbrev pub same_token : Token → Token → Bool
same_token a b = numbered a.no.0 b.no.0

-- a relay's row: its number given, "capacity at most 2^42", used bytes within it, "a heartbeat .. after the clock", "relay counts other than
-- the placements give"
unfoldable pub sound_relay : Tables → Relay → Bool
sound_relay t r =
    free_relay r
    || (is_given t.last_relay r.no.0 && leb r.capacity capacity_limit && leb r.used r.capacity
    && leb r.beat t.clock
    && eqb r.used (sum_of (bytes_on t.volumes r.no) t.entries)
    && eqb r.held (sum_of (shards_on r.no) t.entries))

-- "a number .. held twice"
abbrev pub same_relay_row : Relay → Relay → Bool
same_relay_row a b = numbered a.no.0 b.no.0

-- a staged put: "path, size at most 2^36"
unfoldable pub sound_put : Put → Bool
sound_put p = holds is_path p.path && leb p.size size_limit

-- "a .. session's path held twice"
unfoldable pub same_path : Put → Put → Bool
same_path a b = same_bytes (text_bytes a.path) (text_bytes b.path)

-- a session's slot: "at most 8 staged puts each", its token and volume numbers given. "(sessions aside)": they need not be in the table
unfoldable pub sound_session : Tables → Session → Bool
sound_session t s =
    not (busy s)
    || (is_given t.last_token s.token.0 && is_given t.last_volume s.volume.0 && leb s.count put_rows
    && all_of sound_put (staged s)
    && no_clash same_path (staged s))

-- the clock up to 2^40, deposits up to 10^18, and numbers that end at 65,535
abbrev pub sound_counts : Tables → Bool
sound_counts t =
    leb t.clock clock_limit && leb t.deposits deposits_limit && leb t.last_volume last_number
    && leb t.last_token last_number
    && leb t.last_relay last_number

-- each table, row by row and against itself
unfoldable pub sound_volumes : Tables → Bool
sound_volumes t = all_of (sound_volume t) t.volumes && no_clash same_volume t.volumes && no_clash same_name t.volumes

unfoldable pub sound_entries : Tables → Bool
sound_entries t = all_of (sound_entry t) t.entries && no_clash same_entry t.entries

unfoldable pub sound_tokens : Tables → Bool
sound_tokens t = all_of (sound_token t) t.tokens && no_clash same_token t.tokens

unfoldable pub sound_relays : Tables → Bool
sound_relays t = all_of (sound_relay t) t.relays && no_clash same_relay_row t.relays

unfoldable pub sound_tables : Tables → Bool
sound_tables t = sound_counts t && sound_volumes t && sound_entries t && sound_tokens t && sound_relays t

-- "Answered 1 before all else: a desk or relay table that breaks a limit of this paper or a rule number 1 tests" and the list after it
unfoldable pub sound : Desk → Bool
sound d = sound_tables d.tables && all_of (sound_session d.tables) d.sessions
