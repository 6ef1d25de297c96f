-- The tables that kept rows stand for. j is the bytes of the journal. Assumes nothing.
use Rattle.std.specs.Prelude.{◌≡◌, Bool, List, map, ℕ, ◌*◌, ◌≤◌, ◌^◌, take}
use Rattle.lists.specs.Lists.{all_of, count_if}
use Rattle.text.specs.Text.{path_limit}
use Rattle.rules.specs.declared.VolumeNo.{VolumeNo}
use Rattle.rules.specs.declared.Placement.{Placement}
use Rattle.rules.specs.declared.Entry.{Entry}
use Rattle.rules.specs.declared.Put.{Put}
use Rattle.rules.specs.Tables.{used_entry}
use Rattle.kept.specs.declared.KeptEntry.{KeptEntry}
use Rattle.kept.specs.declared.KeptPut.{KeptPut}
use Rattle.kept.specs.Kept.{bytes_in, entry_in, put_in}
use Rattle.surveys.specs.RowLimits.{entry_within}
use Rattle.surveys.specs.Survey.{left_bytes}

abbrev pub entries_in : List ℕ → List KeptEntry → List Entry
entries_in j rows = map (entry_in j) rows

abbrev pub puts_in : List ℕ → List KeptPut → List Put
puts_in j puts = map (put_in j) puts

-- the entry of a put: its path stands where the put's does
abbrev pub kept_for : VolumeNo → KeptPut → Placement → KeptEntry
kept_for n p place = record { volume = n; at = p.at; len = p.len; size = p.size; hash = p.hash; placement = place }

-- the bytes of a kept path: no more than a text holds
abbrev pub path_in : List ℕ → ℕ → ℕ → List ℕ
path_in j at n = take path_limit (bytes_in j at n)

-- what one walk over the entries says and counts: whether they are within their limits, the bytes of the volume's entries that stay, and the rows in use
pub record Tallied (n : VolumeNo) (marks : List Bool) (es : List Entry) (within : Bool) (kept used : ℕ) : Type 0 where
  pub limits : within ≡ all_of entry_within es
  pub left : kept ≡ left_bytes n marks es
  pub small : kept ≤ 64 * 2 ^ 36
  pub count : used ≡ count_if used_entry es
  pub few : used ≤ 64
