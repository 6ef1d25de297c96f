-- What the kept tables that a collection leaves make of the whole. j is the bytes of the journal. Assumes nothing.
use Rattle.std.specs.Prelude.{Bool, List, ℕ}
use Rattle.lists.specs.Lists.{any_of}
use Rattle.rules.specs.declared.Tables.{Tables}
use Rattle.rules.specs.Tables.{numbered, with_volumes, with_entries, with_tokens, with_relays}
use Rattle.kept.specs.declared.KeptEntry.{KeptEntry}
use Rattle.kept_entries.specs.KeptEntries.{entries_in}
use Rattle.kept_tokens.specs.KeptTokens.{tokens_in}
use Rattle.kept_epochs.specs.declared.KeptCollect.{KeptCollect}

-- an entry of a volume that has one of these numbers
abbrev pub kept_gone : List ℕ → KeptEntry → Bool
kept_gone gone e = any_of (numbered e.volume.0) gone

-- the tables with what a collection left
abbrev pub on_kept_collect : List ℕ → Tables → KeptCollect → Tables
on_kept_collect j t o =
    with_volumes (with_tokens (with_relays (with_entries t (entries_in j o.entries)) o.relays) (tokens_in j o.tokens)) o.volumes
