-- What a commit reads of the entries before its puts are stored. Assumes nothing.
use Rattle.std.specs.Prelude.{◌≡◌, Bool, true, ◌&&◌, cond, not, List, [], ◌∷◌, map, ℕ, ◌+◌, ◌*◌, ◌≤◌, ◌^◌}
use Rattle.lists.specs.Lists.{all_of, count_if, keep, total}
use Rattle.rules.specs.declared.VolumeNo.{VolumeNo}
use Rattle.rules.specs.declared.Entry.{Entry}
use Rattle.rules.specs.declared.Put.{Put}
use Rattle.rules.specs.Tables.{used_entry, in_volume}
use Rattle.rules.specs.Rent.{size_of}
use Rattle.rules.specs.Commit.{is_replaced, is_kept, is_new_path}
use Rattle.surveys.specs.RowLimits.{entry_within}

-- the bytes of the volume's entries that stay
unfoldable pub kept_bytes : VolumeNo → List Put → List Entry → ℕ
kept_bytes n ps es = total (map size_of (keep (is_kept n ps) es))

-- the bytes of an entry that stays: it is the volume's, and its mark is not set; an entry past its limit counts as nothing
abbrev pub left_size : VolumeNo → Bool → Entry → ℕ
left_size n b e = cond (entry_within e && in_volume n e && not b) e.size 0

-- those of all entries, each with its mark
unfoldable pub left_bytes : VolumeNo → List Bool → List Entry → ℕ
left_bytes n [] es = 0
left_bytes n (b ∷ bs) [] = 0
left_bytes n (b ∷ bs) (e ∷ es) = left_size n b e + left_bytes n bs es

-- what a commit reads of the entries, for the puts `ps` of the volume n: a mark for each entry that they replace, whether the entries are within
-- their limits, the bytes of the volume's entries that stay, and the entries in use with those that the puts add
pub record Surveyed (n : VolumeNo) (ps : List Put) (es : List Entry) (marks : List Bool) (within : Bool) (kept rows : ℕ) : Type 0 where
  pub replaced : marks ≡ map (is_replaced n ps) es
  pub limits : within ≡ all_of entry_within es
  pub left : kept ≡ left_bytes n marks es
  pub stays : within ≡ true → kept ≡ kept_bytes n ps es
  pub small : kept ≤ 64 * 2 ^ 36
  pub room : rows ≡ count_if used_entry es + count_if (is_new_path n es) ps
