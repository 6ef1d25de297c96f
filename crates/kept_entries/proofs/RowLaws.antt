-- Kept entries: what their rows say whatever the journal is. Assumes nothing.
use Rattle.std.specs.Prelude.{Some}
use mathlib.Core.Path.{◌≡◌, refl, sym, ◌∙◌}
use mathlib.Core.Bool.{Bool, true, false}
use mathlib.Core.List.{List, [], map}
use Prim.Native.Nat.{ℕ, ◌+◌, ◌<◌}
use lib.ListN.{get_or, set, replicate}
use Rattle.lists.specs.Lists.{first_at}
use Rattle.lists.specs.RowLaws.{map_after}
use Rattle.lists.specs.LoopLaws.{FindLoop}
use Rattle.lists.specs.ByteLoopLaws.{FillLoop}
use Rattle.rules.specs.declared.Entry.{Entry}
use Rattle.rules.specs.declared.VolumeNo.{VolumeNo}
use Rattle.rules.specs.Fresh.{no_volume, fresh_entry}
use Rattle.rules.specs.Tables.{is_entry}
use Rattle.rules.specs.Rent.{size_of}
use Rattle.rows.specs.EntryLaws.{not_entry}
use Rattle.rents.specs.Within.{entry_volume}
use Rattle.entries.specs.Marks.{cleared_by}
use Rattle.kept.specs.declared.KeptEntry.{KeptEntry}
use Rattle.kept.specs.declared.KeptPut.{KeptPut}
use Rattle.kept.specs.Kept.{entry_in, fresh_kept_entry}
use Rattle.kept_entries.specs.KeptEntries.{entries_in}
use Rattle.kept_entries.proofs.MappedLaws.{mapped_here, mapped_on, mapped_past, mapped_marked, mapped_unmarked, map_cleared}

-- what a read past a table's end gives
abbrev pub blank_kept : KeptEntry
blank_kept = record { volume = no_volume; at = 0; len = 0; size = 0; hash = record { 0 = [] }; placement = record { relays = []; len = 0 } }

abbrev pub blank_kept_put : KeptPut
blank_kept_put = record { at = 0; len = 0; size = 0; hash = record { 0 = [] } }

-- an entry of another volume
pub kept_other : (j path : List ℕ) (n : VolumeNo) (e : KeptEntry) → (e.volume.0 ≡ n.0 → ⊥) → is_entry n path (entry_in j e) ≡ false
kept_other j path n e h = not_entry n path (entry_in j e) h

-- the loops over kept entries: p is the test of the entry that a row stands for
module _ (j : List ℕ) (p : Entry → Bool) (rows : List KeptEntry) (i : ℕ) where
  pub kept_here : (b : Bool) → b ≡ true → b ≡ p (entry_in j (get_or rows i blank_kept)) → i < 64 → FindLoop p (entries_in j rows) 64 i
      → Some i ≡ first_at p 0 (entries_in j rows)
  kept_here b t e k h = mapped_here blank_kept (entry_in j) p rows i 64 b t e k h

  pub kept_on : (b : Bool) → b ≡ false → b ≡ p (entry_in j (get_or rows i blank_kept)) → i < 64 → FindLoop p (entries_in j rows) 64 i
      → FindLoop p (entries_in j rows) 64 (i + 1)
  kept_on b t e k h = mapped_on blank_kept (entry_in j) p rows i 64 b t e k h

  pub kept_past : p (entry_in j (get_or rows i blank_kept)) ≡ false → i < 64 → FindLoop p (entries_in j rows) 64 i → FindLoop p (entries_in j rows) 64 (i + 1)
  kept_past e k h = mapped_past blank_kept (entry_in j) p rows i 64 e k h

  module _ (out next : List Bool) where
    pub kept_marked : (b : Bool) → next ≡ set out i b → b ≡ p (entry_in j (get_or rows i blank_kept)) → i < 64
        → FillLoop (replicate 64 false) 0 (map p (entries_in j rows)) 64 i out → FillLoop (replicate 64 false) 0 (map p (entries_in j rows)) 64 (i + 1) next
    kept_marked b q e k h = mapped_marked blank_kept (entry_in j) p rows i 64 out next b q e k h

    pub kept_unmarked : next ≡ out → p (entry_in j (get_or rows i blank_kept)) ≡ false → i < 64
        → FillLoop (replicate 64 false) 0 (map p (entries_in j rows)) 64 i out → FillLoop (replicate 64 false) 0 (map p (entries_in j rows)) 64 (i + 1) next
    kept_unmarked q e k h = mapped_unmarked blank_kept (entry_in j) p rows i 64 out next q e k h

-- the number of an entry's volume, and its size
abbrev pub kept_volume : KeptEntry → ℕ
kept_volume e = e.volume.0

abbrev pub kept_size : KeptEntry → ℕ
kept_size e = e.size

module _ (rows : List KeptEntry) where
  pub volumes_of : (out : List ℕ) → out ≡ map kept_volume rows → (j : List ℕ) → out ≡ map entry_volume (entries_in j rows)
  volumes_of out e j = e ∙ sym (map_after entry_volume (entry_in j) kept_volume rows (λ x. refl))

  pub sizes_of : (out : List ℕ) → out ≡ map kept_size rows → (j : List ℕ) → out ≡ map size_of (entries_in j rows)
  sizes_of out e j = e ∙ sym (map_after size_of (entry_in j) kept_size rows (λ x. refl))

  pub cleared_of : (ms : List Bool) (out : List KeptEntry) → out ≡ cleared_by ms fresh_kept_entry rows
      → (j : List ℕ) → entries_in j out ≡ cleared_by ms fresh_entry (entries_in j rows)
  cleared_of ms out e j = rw e (map_cleared (entry_in j) ms fresh_kept_entry rows)
