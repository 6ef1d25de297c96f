-- The checks of a running session's commit over the parts of the tables that they read, as the number of the refusal, or 0 where all pass; and what is
-- known where they pass. Number 19, for an idle slot, stands before them in `commit_within`. Assumes nothing.
use Rattle.std.specs.Prelude.{◌≡◌, true, cond, not, List, [], ◌∷◌, ℕ, ◌+◌, ◌≤◌, eqb, ltb, get_or}
use Rattle.lists.specs.Lists.{Hit, miss, hit, find, all_of, any_of}
use Rattle.rules.specs.declared.Placement.{Placement}
use Rattle.rules.specs.declared.Volume.{Volume}
use Rattle.rules.specs.declared.Token.{Token}
use Rattle.rules.specs.declared.Relay.{Relay}
use Rattle.rules.specs.declared.Session.{Session}
use Rattle.rules.specs.Limits.{put_rows, entry_rows}
use Rattle.rules.specs.Numbers.{BAD, NO_VOLUME, NO_TOKEN, QUOTA, SIZE, ROOM, RENT, NO_PLACE}
use Rattle.rules.specs.Tables.{staged, is_volume}
use Rattle.rules.specs.Scope.{passes_cap, passes_quota}
use Rattle.rules.specs.Sound.{shards_fit}
use Rattle.rules.specs.Rent.{rent_for}
use Rattle.rules.specs.Commit.{Placed, no_place, placed, staged_bytes, place_all}
use Rattle.rows.specs.Blank.{blank_volume}
use Rattle.first_checks.specs.Early.{token_fault}
use Rattle.surveys.specs.RowLimits.{relay_within, put_within, can_check}

-- 10, 11, 12, 13, where `ks` are the token and its ancestors, `bytes` the staged sizes, `kept` the bytes of the volume's entries that stay, and `rows`
-- the entries in use with those that the puts add
unfoldable pub limits_fault : ℕ → Volume → List Token → ℕ → ℕ → ℕ → ℕ
limits_fault rate v ks bytes kept rows =
    cond (any_of (passes_quota bytes) ks) QUOTA
    (cond (passes_cap v.cap (kept + bytes)) SIZE
    (cond (ltb entry_rows rows) ROOM (cond (ltb v.balance (rent_for rate v ((kept + bytes) ∷ []))) RENT 0)))

-- the first number, or the second where the first is 0
abbrev pub or_else : ℕ → ℕ → ℕ
or_else n m = cond (eqb n 0) m n

-- 14: "some staged put finds too few eligible relays"
abbrev pub place_fault : Placed → ℕ
place_fault no_place = NO_PLACE
place_fault (placed places rs) = 0

-- the placing of a session's puts
abbrev pub placing_of : ℕ → List Relay → Session → Volume → Placed
placing_of clock relays s v = place_all clock v.k v.m (staged s) relays

-- of the two rows, one check after the other, where `ks` are the token and its ancestors
unfoldable pub rows_fault : ℕ → ℕ → List Token → List Relay → Session → ℕ → ℕ → Volume → Token → ℕ
rows_fault clock rate ks relays s kept rows v k =
    or_else (token_fault clock v s.version k)
    (or_else (limits_fault rate v ks (staged_bytes (staged s)) kept rows) (place_fault (placing_of clock relays s v)))

-- 4
unfoldable pub fault_at : ℕ → ℕ → List Token → List Relay → Session → ℕ → ℕ → Volume → Hit Token → ℕ
fault_at clock rate ks relays s kept rows v miss = NO_TOKEN
fault_at clock rate ks relays s kept rows v (hit j k) = rows_fault clock rate ks relays s kept rows v k

-- 2, where h is the token's row
unfoldable pub fault_by : ℕ → ℕ → List Token → List Relay → Session → ℕ → ℕ → Hit Token → Hit Volume → ℕ
fault_by clock rate ks relays s kept rows h miss = NO_VOLUME
fault_by clock rate ks relays s kept rows h (hit i v) = fault_at clock rate ks relays s kept rows v h

-- 1, then by the rows, where h is the token's row
unfoldable pub rows_number : ℕ → ℕ → List Volume → List Token → List Relay → Session → Hit Token → ℕ → ℕ → ℕ
rows_number clock rate volumes ks relays s h kept rows =
    cond (not (can_check volumes relays s kept)) BAD (fault_by clock rate ks relays s kept rows h (find (is_volume s.volume) volumes))

-- what the placing of a session's puts rests on
pub record Ready (relays : List Relay) (s : Session) (v : Volume) : Type 0 where
  pub shards : shards_fit v.k v.m ≡ true
  pub few : s.count ≤ put_rows
  pub puts : all_of put_within (staged s) ≡ true
  pub rooms : all_of relay_within relays ≡ true

-- what is known where the checks pass: i is the row of the session's volume, and the puts are placed there, with these relays after them
pub record RowsFound (clock : ℕ) (volumes : List Volume) (relays : List Relay) (s : Session) (i : ℕ) (places : List Placement) (rs : List Relay) : Type 0 where
  pub volume : find (is_volume s.volume) volumes ≡ hit i (get_or volumes i blank_volume)
  pub placing : placing_of clock relays s (get_or volumes i blank_volume) ≡ placed places rs
