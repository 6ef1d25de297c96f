-- Document 01, "Stage and commit" and the row of commit: its checks in the order of the row, the placing of its puts, then its effect. Assumes nothing.
use Rattle.std.specs.Prelude.{Bool, ◌&&◌, cond, not, List, [], ◌∷◌, ◌++◌, map, ℕ, ◌+◌, eqb, leb, ltb, set}
use Rattle.lists.specs.Lists.{Hit, miss, hit, find, any_of, count_if, keep, sum_of, total}
use Rattle.text.specs.Text.{text_bytes, to_text}
use Rattle.rules.specs.declared.VolumeNo.{VolumeNo}
use Rattle.rules.specs.declared.Placement.{Placement}
use Rattle.rules.specs.declared.Volume.{Volume}
use Rattle.rules.specs.declared.Entry.{Entry}
use Rattle.rules.specs.declared.Token.{Token}
use Rattle.rules.specs.declared.Relay.{Relay}
use Rattle.rules.specs.declared.Put.{Put}
use Rattle.rules.specs.declared.Session.{Session}
use Rattle.rules.specs.declared.Tables.{Tables}
use Rattle.rules.specs.declared.SlotOutcome.{SlotOutcome}
use Rattle.rules.specs.Limits.{entry_rows, last_version}
use Rattle.rules.specs.Numbers.{NO_VOLUME, NO_TOKEN, WINDOW, STATE, CONFLICT, QUOTA, SIZE, ROOM, RENT, NO_PLACE, SESSION, SPENT}
use Rattle.rules.specs.Fresh.{fresh_session}
use Rattle.rules.specs.Tables.{busy, staged, used_entry, free_entry, in_volume, is_entry, is_put, is_token, volume_of, token_of, with_volumes, with_entries, with_tokens, with_relays, with_version, with_used}
use Rattle.rules.specs.Scope.{in_window, passes_cap, passes_quota, family}
use Rattle.rules.specs.Relays.{shard_size, too_few, taken, placement_of, loaded, lightened}
use Rattle.rules.specs.Rent.{size_of, rent_for}
use Rattle.rules.specs.Outcome.{slot_refused, slot_accepted}
use Rattle.rules.specs.VolumeCalls.{is_active}

abbrev pub put_size : Put → ℕ
put_size p = p.size

-- "its staged sizes"
abbrev pub staged_bytes : List Put → ℕ
staged_bytes ps = sum_of put_size ps

-- the entry is this volume's and one of the puts replaces it: it has "equal path"
unfoldable pub is_replaced : VolumeNo → List Put → Entry → Bool
is_replaced n ps e = in_volume n e && any_of (is_put (text_bytes e.path)) ps

-- the entry is this volume's and stays as it is
unfoldable pub is_kept : VolumeNo → List Put → Entry → Bool
is_kept n ps e = in_volume n e && not (any_of (is_put (text_bytes e.path)) ps)

-- the sizes of the volume's objects after the commit, replaced entries out
unfoldable pub sizes_after : VolumeNo → List Put → List Entry → List ℕ
sizes_after n ps es = map size_of (keep (is_kept n ps) es) ++ map put_size ps

-- the put's path is new to the volume
unfoldable pub is_new_path : VolumeNo → List Entry → Put → Bool
is_new_path n es p = not (any_of (is_entry n (text_bytes p.path)) es)

-- 10: "used + staged sizes would pass the cap, or 2^60, of the token or an ancestor"
unfoldable pub passes_quotas : Tables → Token → List Put → Bool
passes_quotas t k ps = any_of (passes_quota (staged_bytes ps)) (family t.tokens k)

-- 11: "volume's raw bytes would pass its cap"
unfoldable pub passes_size : Tables → Volume → List Put → Bool
passes_size t v ps = passes_cap v.cap (total (sizes_after v.no ps t.entries))

-- 12: "commit: 65th entry"
unfoldable pub passes_room : Tables → Volume → List Put → Bool
passes_room t v ps = ltb entry_rows (count_if used_entry t.entries + count_if (is_new_path v.no t.entries) ps)

-- 13: "balance below one epoch's rent of the new content"
unfoldable pub below_rent : Tables → Volume → List Put → Bool
below_rent t v ps = ltb v.balance (rent_for t.rate v (sizes_after v.no ps t.entries))

-- what placing gives: too few relays for some put, or a placement for each and the relay table after them
pub data Placed : Type 0 where
  no_place : Placed
  placed : List Placement → List Relay → Placed

-- one placement more, in front
abbrev pub and_placed : Placement → Placed → Placed
and_placed p no_place = no_place
and_placed p (placed ps rs) = placed (p ∷ ps) rs

-- "For each put in staging order", each on the relays as the puts before it left them
unfoldable pub place_all : ℕ → ℕ → ℕ → List Put → List Relay → Placed
place_all clock k m [] rs = placed [] rs
place_all clock k m (p ∷ ps) rs =
    let bytes = shard_size p.size k in
    let place = placement_of (taken clock bytes (k + m) rs) in
    cond (too_few clock bytes (k + m) rs) no_place
    (and_placed place (place_all clock k m ps (map (loaded bytes place) rs)))

-- the entry of a put; its text is written anew, padded with zeros
abbrev pub entry_for : VolumeNo → Put → Placement → Entry
entry_for n p place = record { volume = n; path = to_text (text_bytes p.path); size = p.size; hash = p.hash; placement = place }

-- the lowest free row takes a new entry
unfoldable pub store_new : List Entry → Entry → Hit Entry → List Entry
store_new es e miss = es
store_new es e (hit i old) = set es i e

-- "replacing an entry of equal path in its row", else a new one
unfoldable pub store_at : List Entry → Entry → Hit Entry → List Entry
store_at es e miss = store_new es e (find free_entry es)
store_at es e (hit i old) = set es i e

-- "stores all staged puts in staging order"
unfoldable pub store_all : VolumeNo → List Put → List Placement → List Entry → List Entry
store_all n [] places es = es
store_all n (p ∷ ps) [] es = es
store_all n (p ∷ ps) (place ∷ places) es =
    store_all n ps places (store_at es (entry_for n p place) (find (is_entry n (text_bytes p.path)) es))

-- "A commit adds its staged sizes to the token and every ancestor"
unfoldable pub charged : List Token → ℕ → Token → Token
charged ks bytes k = cond (any_of (is_token k.no) ks) (with_used k (k.used + bytes)) k

-- the tables after an accepted commit. "Replaced objects give their room and held shards back only after all puts are placed"
unfoldable pub committed : Tables → ℕ → Volume → Token → List Put → List Placement → List Relay → Tables
committed t i v k ps places rs =
    with_relays
    (with_tokens
    (with_entries (with_volumes t (set t.volumes i (with_version v (v.version + 1)))) (store_all v.no ps places t.entries))
    (map (charged (family t.tokens k) (staged_bytes ps)) t.tokens))
    (map (lightened t.volumes (keep (is_replaced v.no ps) t.entries)) rs)

-- 14, then the effect; the slot is freed
unfoldable pub commit_placed : Tables → Session → ℕ → Volume → Token → Placed → SlotOutcome
commit_placed t s i v k no_place = slot_refused t s NO_PLACE
commit_placed t s i v k (placed places rs) =
    slot_accepted (v.version + 1) (committed t i v k (staged s) places rs) fresh_session

-- 10, 11, 12, 13
unfoldable pub commit_limits : Tables → Session → ℕ → Volume → Token → SlotOutcome
commit_limits t s i v k =
    cond (passes_quotas t k (staged s)) (slot_refused t s QUOTA)
    (cond (passes_size t v (staged s)) (slot_refused t s SIZE)
    (cond (passes_room t v (staged s)) (slot_refused t s ROOM)
    (cond (below_rent t v (staged s)) (slot_refused t s RENT)
    (commit_placed t s i v k (place_all t.clock v.k v.m (staged s) t.relays)))))

-- 4, 5, 8, 9, 21
unfoldable pub commit_token : Tables → Session → ℕ → Volume → Hit Token → SlotOutcome
commit_token t s i v miss = slot_refused t s NO_TOKEN
commit_token t s i v (hit j k) =
    cond (not (in_window t.clock k.scope)) (slot_refused t s WINDOW)
    (cond (not (is_active v.status)) (slot_refused t s STATE)
    (cond (not (eqb v.version s.version)) (slot_refused t s CONFLICT)
    (cond (leb last_version v.version) (slot_refused t s SPENT)
    (commit_limits t s i v k))))

-- 2
unfoldable pub commit_volume : Tables → Session → Hit Volume → SlotOutcome
commit_volume t s miss = slot_refused t s NO_VOLUME
commit_volume t s (hit i v) = commit_token t s i v (token_of s.token t)

-- "0B commit | slot | 1 19 2 4 5 8 9 21 10 11 12 13 14 | version"
unfoldable pub commit_rule : Tables → Session → SlotOutcome
commit_rule t s = cond (not (busy s)) (slot_refused t s SESSION) (commit_volume t s (volume_of s.volume t))
