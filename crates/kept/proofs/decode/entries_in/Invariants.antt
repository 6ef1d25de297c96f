-- `entries_in` meets its contract: the rows before i are decoded. Assumes nothing.
use mathlib.Core.List.{map}
use Prim.Native.Nat.{◌-◌}
use lib.ListN.{replicate}
use Rattle.lists.specs.ByteLoopLaws.{FillLoop}
use Rattle.rules.specs.Fresh.{fresh_entry}
use Rattle.kept.specs.Kept.{entry_in}
use Rattle.kept.proofs.decode.entries_in.Given as goal

abbrev pub invariant-loop-i : goal.invariant-loop-i
invariant-loop-i l = FillLoop (replicate 64 fresh_entry) 0 (map (entry_in l.journal) l.rows) 64 l.i l.entries
