-- `stores::store_kept` meets its contract: what is left to store decides, and a row without a mark has none of the puts' paths; for each put, the rows
-- from k on are searched. Assumes nothing.
use Prim.Native.Nat.{◌-◌}
use Rattle.kept_entries.specs.KeptEntries.{path_in}
use Rattle.kept_entries.proofs.StoreLaws.{PutLoop, RowLoop}
use Rattle.kept_entries.proofs.stores.store_kept.Given as goal

abbrev pub invariant-loop-k : goal.invariant-loop-k
invariant-loop-k l = RowLoop l.journal l.n (path_in l.journal l.p.at l.p.len) l.marks l.out l.k l.row l.free

abbrev pub decreases-loop-k : goal.decreases-loop-k
decreases-loop-k l = l.k

abbrev pub invariant-loop-i : goal.invariant-loop-i
invariant-loop-i l = PutLoop l.journal l.n l.count l.puts l.places l.initial.out l.m l.i l.marks l.out
