-- Document 01, "GARBAGE_COLLECTING is done at once": the volumes that are collected, by their numbers. GoneLaws shows that these come to the rules'
-- tests. Assumes nothing.
use Rattle.std.specs.Prelude.{Bool, ◌&&◌, cond, List, ℕ}
use Rattle.lists.specs.Lists.{any_of}
use Rattle.rules.specs.declared.Volume.{Volume}
use Rattle.rules.specs.declared.Entry.{Entry}
use Rattle.rules.specs.declared.Token.{Token}
use Rattle.rules.specs.Tables.{used_token, numbered}
use Rattle.rules.specs.Advance.{is_due}

-- the number of a volume that is due, and 0 of any other row
unfoldable pub due_number : ℕ → Volume → ℕ
due_number clock v = cond (is_due clock v) v.no.0 0

-- an entry, and a token, of a volume that has one of these numbers
abbrev pub entry_gone : List ℕ → Entry → Bool
entry_gone gone e = any_of (numbered e.volume.0) gone

abbrev pub token_gone : List ℕ → Token → Bool
token_gone gone k = used_token k && any_of (numbered k.volume.0) gone
