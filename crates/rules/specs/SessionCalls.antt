-- Document 01, "The calls" and "Stage and commit": open, stage and abandon, each on the tables and one slot: its checks in the order of its row,
-- then its effect. Number 1 for the slot itself is tested in Calls.antt. Assumes nothing.
use Rattle.std.specs.Prelude.{◌&&◌, cond, not, List, ℕ, ◌+◌, leb, set, replicate}
use Rattle.lists.specs.Lists.{Hit, miss, hit, find}
use Rattle.text.specs.Text.{is_path, covers, text_bytes, to_text}
use Rattle.rules.specs.declared.VolumeNo.{VolumeNo}
use Rattle.rules.specs.declared.TokenNo.{TokenNo}
use Rattle.rules.specs.declared.Hash.{Hash}
use Rattle.rules.specs.declared.Volume.{Volume}
use Rattle.rules.specs.declared.Token.{Token}
use Rattle.rules.specs.declared.Put.{Put}
use Rattle.rules.specs.declared.Session.{Session}
use Rattle.rules.specs.declared.Tables.{Tables}
use Rattle.rules.specs.declared.SlotOutcome.{SlotOutcome}
use Rattle.rules.specs.Limits.{put_rows, size_limit}
use Rattle.rules.specs.Numbers.{BAD, NO_TOKEN, WINDOW, MODE, PREFIX, STATE, ROOM, SESSION}
use Rattle.rules.specs.Fresh.{fresh_put, fresh_session}
use Rattle.rules.specs.Tables.{busy, staged, is_put, volume_of, token_of}
use Rattle.rules.specs.Scope.{in_window, can_write}
use Rattle.rules.specs.Outcome.{slot_refused, slot_accepted}
use Rattle.rules.specs.VolumeCalls.{is_active}

-- the session of a token and a volume at its version, with nothing staged
abbrev pub opened : TokenNo → VolumeNo → ℕ → Session
opened n v version = record { token = n; volume = v; version = version; count = 0; puts = replicate put_rows fresh_put }

-- 8: "Open and commit need ACTIVE."
unfoldable pub open_volume : Tables → Session → TokenNo → Hit Volume → SlotOutcome
open_volume t s n miss = slot_refused t s STATE
open_volume t s n (hit i v) =
    cond (not (is_active v.status)) (slot_refused t s STATE)
    (slot_accepted 0 t (opened n v.no v.version))

-- 4, 5, 6 "open without write"
unfoldable pub open_token : Tables → Session → Hit Token → SlotOutcome
open_token t s miss = slot_refused t s NO_TOKEN
open_token t s (hit i k) =
    cond (not (in_window t.clock k.scope)) (slot_refused t s WINDOW)
    (cond (not (can_write k.scope.mode)) (slot_refused t s MODE)
    (open_volume t s k.no (volume_of k.volume t)))

-- "09 open | slot, token | 1 19 4 5 6 8 | 0"; 19: "open: slot busy"
unfoldable pub open_rule : TokenNo → Tables → Session → SlotOutcome
open_rule n t s = cond (busy s) (slot_refused t s SESSION) (open_token t s (token_of n t))

-- a session with its puts replaced
abbrev pub with_puts : Session → ℕ → List Put → Session
with_puts s count puts = record { token = s.token; volume = s.volume; version = s.version; count = count; puts = puts }

abbrev pub new_put : List ℕ → ℕ → Hash → Put
new_put path size h = record { path = to_text path; size = size; hash = h }

-- "Staging a staged path again replaces its size and hash in its old place"; a new one takes the next place
abbrev pub restaged : Session → ℕ → Put → Session
restaged s j p = with_puts s s.count (set s.puts j p)

abbrev pub staged_next : Session → Put → Session
staged_next s p = with_puts s (s.count + 1) (set s.puts s.count p)

-- 12: "stage: 9th path"
unfoldable pub stage_put : Tables → Session → Put → Hit Put → SlotOutcome
stage_put t s p (hit j old) = slot_accepted 0 t (restaged s j p)
stage_put t s p miss =
    cond (leb put_rows s.count) (slot_refused t s ROOM)
    (slot_accepted 0 t (staged_next s p))

-- 4, 7
unfoldable pub stage_token : Tables → Session → List ℕ → ℕ → Hash → Hit Token → SlotOutcome
stage_token t s path size h miss = slot_refused t s NO_TOKEN
stage_token t s path size h (hit i k) =
    cond (not (covers (text_bytes k.scope.prefix) path)) (slot_refused t s PREFIX)
    (stage_put t s (new_put path size h) (find (is_put path) (staged s)))

-- "0A stage | slot, path, size, hash | 1 19 4 7 12 | 0"; 19: "else: slot idle"
unfoldable pub stage_rule : List ℕ → ℕ → Hash → Tables → Session → SlotOutcome
stage_rule path size h t s =
    cond (not (is_path path && leb size size_limit)) (slot_refused t s BAD)
    (cond (not (busy s)) (slot_refused t s SESSION)
    (stage_token t s path size h (token_of s.token t)))

-- "0C abandon | slot | 1 19 | 0": "An accepted abandon frees the slot and changes nothing else."
unfoldable pub abandon_rule : Tables → Session → SlotOutcome
abandon_rule t s = cond (not (busy s)) (slot_refused t s SESSION) (slot_accepted 0 t fresh_session)
