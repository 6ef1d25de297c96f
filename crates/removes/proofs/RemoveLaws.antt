-- What a remove answers: where a table has no such row (`X-none`), at the row (`X-at`), and what it leaves. Assumes nothing.
use mathlib.Core.Path.{◌≡◌, ◌∙◌}
use mathlib.Core.Bool.{Bool}
use mathlib.Core.List.{List, map}
use Prim.Native.Nat.{ℕ}
use lib.ListN.{set}
use Rattle.lists.specs.AnswerLaws.{NoRow, AtRow, no_row, at_row}
use Rattle.rules.specs.declared.Account.{Account}
use Rattle.rules.specs.declared.VolumeNo.{VolumeNo}
use Rattle.rules.specs.declared.Volume.{Volume}
use Rattle.rules.specs.declared.Entry.{Entry}
use Rattle.rules.specs.declared.Relay.{Relay}
use Rattle.rules.specs.declared.Tables.{Tables}
use Rattle.rules.specs.declared.TablesOutcome.{TablesOutcome}
use Rattle.rules.specs.Fresh.{fresh_entry}
use Rattle.rules.specs.Tables.{is_volume, is_entry, with_volumes, with_entries, with_relays, with_version}
use Rattle.rules.specs.Relays.{lightened}
use Rattle.rules.specs.Outcome.{accepted}
use Rattle.rules.specs.VolumeCalls.{drop_entries, remove_entry, remove_in}
use Rattle.rows.specs.Blank.{blank_volume, blank_entry}
use Rattle.entries.specs.Marks.{marked, cleared_by}
use Rattle.entries.specs.MarkLaws.{marked_keep, cleared_by_lem}

module _ (t : Tables) where
  pub remove_none : (a : Account) (path : List ℕ) (n : VolumeNo) → NoRow (remove_in t a path) (is_volume n) t.volumes
  remove_none a path n = no_row (remove_in t a path) _ _

  pub remove_at : (a : Account) (path : List ℕ) (n : VolumeNo) → AtRow (remove_in t a path) (is_volume n) t.volumes blank_volume
  remove_at a path n = at_row (remove_in t a path) _ _ _

  module _ (path : List ℕ) (i : ℕ) (v : Volume) where
    pub entry_none : NoRow (remove_entry t path i v) (is_entry v.no path) t.entries
    entry_none = no_row (remove_entry t path i v) _ _

    pub entry_at : AtRow (remove_entry t path i v) (is_entry v.no path) t.entries blank_entry
    entry_at = at_row (remove_entry t path i v) _ _ _

    -- the entries that are marked go, and the volume has its new version
    pub removes : (x : TablesOutcome) (ms : List Bool) (left : List Entry) (rows : List Relay) (w : Volume) (version : ℕ)
        → ms ≡ map (is_entry v.no path) t.entries → left ≡ cleared_by ms fresh_entry t.entries
        → rows ≡ map (lightened t.volumes (marked ms t.entries)) t.relays → w ≡ with_version v version
        → x ≡ accepted version (with_volumes (with_relays (with_entries t left) rows) (set t.volumes i w))
        → x ≡ accepted version (with_volumes (drop_entries (is_entry v.no path) t) (set t.volumes i (with_version v version)))
    unfolding drop_entries
    removes x ms left rows w version m l r q e =
        e ∙ rw (q, l, r, m, marked_keep (is_entry v.no path) t.entries, cleared_by_lem (is_entry v.no path) fresh_entry t.entries)
