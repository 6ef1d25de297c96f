-- `stores::count_kept_new` meets its contract: what is counted and what is left are the whole; before each entry, what was found with what is left
-- is whether the volume has the path. Assumes nothing.
use Prim.Native.Nat.{◌-◌}
use Rattle.kept_entries.specs.KeptEntries.{path_in}
use Rattle.kept_entries.proofs.CountLaws.{NewLoop, SeekLoop}
use Rattle.kept_entries.proofs.stores.count_kept_new.Given as goal

abbrev pub invariant-loop-k : goal.invariant-loop-k
invariant-loop-k l = SeekLoop l.journal l.n (path_in l.journal l.at l.len) l.marks l.entries l.k l.there

abbrev pub invariant-loop-i : goal.invariant-loop-i
invariant-loop-i l = NewLoop l.journal l.n l.puts l.count l.marks l.entries l.m l.i l.new
