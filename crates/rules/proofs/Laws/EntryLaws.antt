-- Laws of same_entry: entries of one volume and path. Assumes nothing.
use Rattle.std.specs.Prelude.{◌≡◌, true, false}
use Rattle.std.proofs.Common.{ap, sym, ◌∙◌}
use Rattle.lists.specs.Bytes.{same_bytes}
use Rattle.lists.specs.BoolLaws.{and_left, and_right, not_pass, not_both}
use Rattle.lists.specs.ByteLaws.{same_eq, same_symmetric}
use Rattle.text.specs.Text.{text_bytes}
use Rattle.rules.specs.declared.Entry.{Entry}
use Rattle.rules.specs.Tables.{given, numbered, used_entry, free_entry}
use Rattle.rules.specs.Sound.{same_entry}
use Rattle.rules.proofs.Laws.NumberLaws.{numbered_eq}
use Rattle.rules.proofs.Laws.ApartLaws.{free_not_used, numbered_given, numbered_symmetric}

-- entries of one volume and path
module _ (a b : Entry) where
  pub same_entry_symmetric : same_entry a b ≡ same_entry b a
  unfolding same_entry
  same_entry_symmetric = rw (numbered_symmetric a.volume.0 b.volume.0, same_symmetric (text_bytes a.path) (text_bytes b.path))

  module _ (e : same_entry a b ≡ true) where
    pub same_entry_number : b.volume.0 ≡ a.volume.0
    unfolding same_entry
    same_entry_number =
        numbered_eq a.volume.0 b.volume.0
        (and_left (numbered a.volume.0 b.volume.0) (same_bytes (text_bytes a.path) (text_bytes b.path)) e)

    same_entry_path : text_bytes a.path ≡ text_bytes b.path
    unfolding same_entry
    same_entry_path =
        same_eq (text_bytes a.path) (text_bytes b.path)
        (and_right (numbered a.volume.0 b.volume.0) (same_bytes (text_bytes a.path) (text_bytes b.path)) e)

    same_entry_used : used_entry a ≡ true
    unfolding same_entry
    same_entry_used =
        numbered_given a.volume.0 b.volume.0
        (and_left (numbered a.volume.0 b.volume.0) (same_bytes (text_bytes a.path) (text_bytes b.path)) e)

    -- they clash with the same entries
    pub same_entry_reads : (c : Entry) → same_entry b c ≡ same_entry a c
    unfolding same_entry
    same_entry_reads c = rw (same_entry_number, same_entry_path)

  -- a free row clashes with none
  pub free_apart : free_entry b ≡ true → same_entry a b ≡ false
  free_apart f =
      not_pass (same_entry a b) (λ e. not_both (same_entry_used e) (ap given (sym (same_entry_number e)) ∙ free_not_used b.volume.0 f))
