-- `paths::find_kept_entry` meets its contract: the rows from i on decide. Assumes nothing.
use Prim.Native.Nat.{◌-◌}
use Rattle.rules.specs.Tables.{is_entry}
use Rattle.lists.specs.LoopLaws.{FindLoop}
use Rattle.kept_entries.specs.KeptEntries.{entries_in}
use Rattle.kept_entries.proofs.paths.find_kept_entry.Given as goal

abbrev pub invariant-loop-i : goal.invariant-loop-i
invariant-loop-i l = FindLoop (is_entry l.n l.path) (entries_in l.journal l.rows) 64 l.i
