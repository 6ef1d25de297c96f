-- Document 01, "The calls": create, deposit, delete and undelete, and remove. Each is its checks in the order of its row, then its effect.
-- Assumes nothing.
use Rattle.std.specs.Prelude.{Bool, true, false, ◌&&◌, ◌||◌, cond, not, List, map, ℕ, ◌+◌, leb, ltb, set}
use Rattle.amount.specs.declared.Cap.{Cap}
use Rattle.lists.specs.Lists.{Hit, miss, hit, find, any_of, keep}
use Rattle.lists.specs.Bytes.{same_bytes}
use Rattle.text.specs.Text.{is_name, is_path, name_bytes, to_name}
use Rattle.rules.specs.declared.VolumeNo.{VolumeNo}
use Rattle.rules.specs.declared.Account.{Account}
use Rattle.rules.specs.declared.Status.{Status}
use Rattle.rules.specs.declared.Status.TheVariants.{Active, Grace, Deleted}
use Rattle.rules.specs.declared.Volume.{Volume}
use Rattle.rules.specs.declared.Entry.{Entry}
use Rattle.rules.specs.declared.Token.{Token}
use Rattle.rules.specs.declared.Tables.{Tables}
use Rattle.rules.specs.declared.TablesOutcome.{TablesOutcome}
use Rattle.rules.specs.Limits.{balance_limit, deposits_limit, last_number, last_version}
use Rattle.rules.specs.Numbers.{BAD, NO_VOLUME, NOT_OWNER, STATE, ROOM, NO_ENTRY, TOO_MUCH, SPENT, NAME_TAKEN}
use Rattle.rules.specs.Fresh.{fresh_entry, fresh_token}
use Rattle.rules.specs.Tables.{used_volume, used_token, numbered, free_volume, is_entry, owned_by, volume_of, entry_of, with_volumes, with_entries, with_tokens, with_relays, with_last_volume, with_deposits, with_balance, with_version, with_status, cleared}
use Rattle.rules.specs.Scope.{cap_fits}
use Rattle.rules.specs.Sound.{shards_fit}
use Rattle.rules.specs.Relays.{lightened}
use Rattle.rules.specs.Outcome.{refused, accepted}

-- "Status (000). Open and commit need ACTIVE. Deposit, delete, grant, remove: ACTIVE or GRACE_PERIOD. Undelete: DELETED"
abbrev pub is_active : Status → Bool
is_active Active = true
is_active Grace = false
is_active Deleted = false

abbrev pub is_deleted : Status → Bool
is_deleted Active = false
is_deleted Grace = false
is_deleted Deleted = true

abbrev pub is_open : Status → Bool
is_open s = not (is_deleted s)

-- 25: "that owner has a volume of that name in the table"
unfoldable pub has_name : Account → List ℕ → Volume → Bool
has_name a name v = used_volume v && owned_by a v && same_bytes (name_bytes v.name) name

-- "a new volume is ACTIVE with balance 0"; "A volume's version starts at 0"
abbrev pub new_volume : ℕ → Account → List ℕ → ℕ → ℕ → Cap → Volume
new_volume n a name k m cap = record {
  no = record { 0 = n };
  owner = a;
  name = to_name name;
  k = k;
  m = m;
  cap = cap;
  status = Active;
  balance = 0;
  version = 0;
  grace = 0;
  deleted = 0;
}

-- the volume of the next number
abbrev pub next_volume : Tables → Account → List ℕ → ℕ → ℕ → Cap → Volume
next_volume t a name k m cap = new_volume (t.last_volume + 1) a name k m cap

-- the tables with a new volume in its row
abbrev pub created : Tables → ℕ → Volume → Tables
created t i v = with_last_volume (with_volumes t (set t.volumes i v)) v.no.0

-- 12, then "New things take the lowest free row."
unfoldable pub create_in : Tables → Volume → Hit Volume → TablesOutcome
create_in t v miss = refused t ROOM
create_in t v (hit i old) = accepted v.no.0 (created t i v)

-- "02 create | account, name, K, M, cap | 1 25 21 12 | number"
unfoldable pub create_rule : Account → List ℕ → ℕ → ℕ → Cap → Tables → TablesOutcome
create_rule a name k m cap t =
    cond (not (is_name name && shards_fit k m && cap_fits cap)) (refused t BAD)
    (cond (any_of (has_name a name) t.volumes) (refused t NAME_TAKEN)
    (cond (leb last_number t.last_volume) (refused t SPENT)
    (create_in t (next_volume t a name k m cap) (find free_volume t.volumes))))

-- 20: "balance above 10^15, or all deposits ever above 10^18"
abbrev pub too_much : Tables → Volume → ℕ → Bool
too_much t v coins = ltb balance_limit (v.balance + coins) || ltb deposits_limit (t.deposits + coins)

-- the coins are the volume's, and all deposits ever count them
abbrev pub deposited : Tables → ℕ → ℕ → Volume → Tables
deposited t coins i v = with_deposits (with_volumes t (set t.volumes i (with_balance v (v.balance + coins)))) (t.deposits + coins)

unfoldable pub deposit_in : Tables → ℕ → Hit Volume → TablesOutcome
deposit_in t coins miss = refused t NO_VOLUME
deposit_in t coins (hit i v) =
    cond (not (is_open v.status)) (refused t STATE)
    (cond (too_much t v coins) (refused t TOO_MUCH)
    (accepted 0 (deposited t coins i v)))

-- "03 deposit | volume, coins | 2 8 20 | 0"
unfoldable pub deposit_rule : VolumeNo → ℕ → Tables → TablesOutcome
deposit_rule n coins t = deposit_in t coins (volume_of n t)

-- the token is this volume's
abbrev pub is_token_of : VolumeNo → Token → Bool
is_token_of n k = used_token k && numbered n.0 k.volume.0

-- "Delete sets DELETED and drops the volume's tokens for good."
abbrev pub deleted : Tables → ℕ → Volume → Tables
deleted t i v =
    with_tokens (with_volumes t (set t.volumes i (with_status v Deleted v.grace t.clock))) (cleared (is_token_of v.no) fresh_token t.tokens)

-- 2, 3, 8
unfoldable pub delete_in : Tables → Account → Hit Volume → TablesOutcome
delete_in t a miss = refused t NO_VOLUME
delete_in t a (hit i v) =
    cond (not (owned_by a v)) (refused t NOT_OWNER)
    (cond (not (is_open v.status)) (refused t STATE)
    (accepted 0 (deleted t i v)))

-- "04 delete, 05 undelete | account, volume | 2 3 8 | 0"
unfoldable pub delete_rule : Account → VolumeNo → Tables → TablesOutcome
delete_rule a n t = delete_in t a (volume_of n t)

-- "Undelete: DELETED, and gives ACTIVE with its grace count cleared."
abbrev pub undeleted : Tables → ℕ → Volume → Tables
undeleted t i v = with_volumes t (set t.volumes i (with_status v Active 0 0))

-- 2, 3, 8
unfoldable pub undelete_in : Tables → Account → Hit Volume → TablesOutcome
undelete_in t a miss = refused t NO_VOLUME
undelete_in t a (hit i v) =
    cond (not (owned_by a v)) (refused t NOT_OWNER)
    (cond (not (is_deleted v.status)) (refused t STATE)
    (accepted 0 (undeleted t i v)))

-- "04 delete, 05 undelete | account, volume | 2 3 8 | 0"
unfoldable pub undelete_rule : Account → VolumeNo → Tables → TablesOutcome
undelete_rule a n t = undelete_in t a (volume_of n t)

-- the tables without the entries that pass the test, whose room is given back at once
unfoldable pub drop_entries : (Entry → Bool) → Tables → Tables
drop_entries p t =
    with_relays (with_entries t (cleared p fresh_entry t.entries)) (map (lightened t.volumes (keep p t.entries)) t.relays)

-- the entry goes, "removed and collected ones at once", and "an accepted commit or remove adds 1"
abbrev pub removed : Tables → List ℕ → ℕ → Volume → Tables
removed t path i v = with_volumes (drop_entries (is_entry v.no path) t) (set t.volumes i (with_version v (v.version + 1)))

-- 15, 21
unfoldable pub remove_entry : Tables → List ℕ → ℕ → Volume → Hit Entry → TablesOutcome
remove_entry t path i v miss = refused t NO_ENTRY
remove_entry t path i v (hit j e) =
    cond (leb last_version v.version) (refused t SPENT)
    (accepted (v.version + 1) (removed t path i v))

-- 2, 3, 8: "Only owners remove (001)."
unfoldable pub remove_in : Tables → Account → List ℕ → Hit Volume → TablesOutcome
remove_in t a path miss = refused t NO_VOLUME
remove_in t a path (hit i v) =
    cond (not (owned_by a v)) (refused t NOT_OWNER)
    (cond (not (is_open v.status)) (refused t STATE)
    (remove_entry t path i v (entry_of v.no path t)))

-- "0D remove | account, volume, path | 1 2 3 8 15 21 | version"
unfoldable pub remove_rule : Account → VolumeNo → List ℕ → Tables → TablesOutcome
remove_rule a n path t = cond (not (is_path path)) (refused t BAD) (remove_in t a path (volume_of n t))
