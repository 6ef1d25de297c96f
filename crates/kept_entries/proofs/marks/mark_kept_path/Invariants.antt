-- `marks::mark_kept_path` meets its contract: after i turns the first i rows have their marks. Assumes nothing.
use Prim.Native.Nat.{◌-◌}
use mathlib.Core.Bool.{false}
use mathlib.Core.List.{map}
use lib.ListN.{replicate}
use Rattle.lists.specs.ByteLoopLaws.{FillLoop}
use Rattle.rules.specs.Tables.{is_entry}
use Rattle.kept_entries.specs.KeptEntries.{entries_in}
use Rattle.kept_entries.proofs.marks.mark_kept_path.Given as goal

abbrev pub invariant-loop-i : goal.invariant-loop-i
invariant-loop-i l = FillLoop (replicate 64 false) 0 (map (is_entry l.n l.path) (entries_in l.journal l.rows)) 64 l.i l.marks
