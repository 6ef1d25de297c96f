-- The search for an entry that looks at a row's volume first: a row of another volume is not the entry, whatever its path. Assumes nothing.
use Rattle.std.specs.Prelude.{◌≡◌, Bool, true, false, List, ℕ, ◌+◌, ◌<◌, eqb, get_or, Some}
use Rattle.std.proofs.Common.{sym, ne_eqb}
use Rattle.lists.specs.Lists.{first_at}
use Rattle.lists.specs.Bytes.{same_bytes}
use Rattle.lists.specs.AnswerLaws.{first_fails, part_fails}
use Rattle.lists.specs.LoopLaws.{FindLoop, find_here, find_on_row}
use Rattle.text.specs.Text.{text_bytes}
use Rattle.rules.specs.declared.VolumeNo.{VolumeNo}
use Rattle.rules.specs.declared.Entry.{Entry}
use Rattle.rules.specs.Tables.{given, in_volume, is_entry}
use Rattle.rows.specs.Blank.{blank_entry}

pub not_in_volume : (n : VolumeNo) (e : Entry) → (e.volume.0 ≡ n.0 → ⊥) → in_volume n e ≡ false
not_in_volume n e h = sym (part_fails (given n.0) (eqb e.volume.0 n.0) (ne_eqb e.volume.0 n.0 h))

module _ (n : VolumeNo) (path : List ℕ) where
  pub not_entry : (e : Entry) → (e.volume.0 ≡ n.0 → ⊥) → is_entry n path e ≡ false
  unfolding is_entry
  not_entry e h = first_fails (in_volume n e) (same_bytes (text_bytes e.path) path) (not_in_volume n e h)

  -- at row i: it is the entry, or of another volume, and the search goes on
  module _ (rows : List Entry) (i : ℕ) where
    pub entry_here : (b : Bool) → b ≡ true → b ≡ is_entry n path (get_or rows i blank_entry) → i < 64 → FindLoop (is_entry n path) rows 64 i
        → Some i ≡ first_at (is_entry n path) 0 rows
    entry_here b t e k h = find_here blank_entry (is_entry n path) rows 64 i b h k e t

    pub entry_past : ((get_or rows i blank_entry).volume.0 ≡ n.0 → ⊥) → i < 64 → FindLoop (is_entry n path) rows 64 i → FindLoop (is_entry n path) rows 64 (i + 1)
    entry_past w k h = find_on_row blank_entry (is_entry n path) rows 64 i h k (not_entry (get_or rows i blank_entry) w)
