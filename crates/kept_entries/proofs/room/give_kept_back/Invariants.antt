-- `room::give_kept_back` meets its contract: what is left to give back decides. Assumes nothing.
use mathlib.Core.List.{[]}
use Prim.Native.Nat.{◌-◌}
use Rattle.entries.specs.MarkLaws.{GiveLoop}
use Rattle.kept_entries.specs.KeptEntries.{entries_in}
use Rattle.kept_entries.proofs.room.give_kept_back.Given as goal

abbrev pub invariant-loop-i : goal.invariant-loop-i
invariant-loop-i l = GiveLoop l.volumes (entries_in [] l.entries) l.marks l.initial.rows l.rows l.i
