-- A number for each entry, which entries of the same volume and path share, and one for each staged put, which puts of the same path share. It only
-- saves work: the test of the desk compares two paths where their numbers are the same. Assumes nothing.
use Rattle.std.specs.Prelude.{cond, ℕ}
use Rattle.text.specs.Text.{text_bytes}
use Rattle.rules.specs.declared.Entry.{Entry}
use Rattle.rules.specs.declared.Put.{Put}
use Rattle.rules.specs.Tables.{free_entry}
use Rattle.rows.specs.PathKeys.{key_of}

-- 0 of a free row
unfoldable pub path_key : Entry → ℕ
path_key e = cond (free_entry e) 0 (key_of e.volume.0 (text_bytes e.path))

-- the same of a staged put: the puts of a session are of one volume, and 1 stands in the place of its number
abbrev pub put_key : Put → ℕ
put_key p = key_of 1 (text_bytes p.path)
