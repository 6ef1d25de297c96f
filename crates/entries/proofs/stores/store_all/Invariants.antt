-- `stores::store_all` meets its contract: what is left to store decides, and a row without a mark has none of the puts' paths; for each put, the rows
-- from j on are searched. Assumes nothing.
use lib.ListN.{take}
use Rattle.entries.proofs.StoreLaws.{PutLoop, RowLoop}
use Rattle.entries.proofs.stores.store_all.Given as goal

abbrev pub invariant-loop-j : goal.invariant-loop-j
invariant-loop-j l = RowLoop l.n (take l.k l.b) l.marks l.out l.j l.row l.free

abbrev pub invariant-loop-i : goal.invariant-loop-i
invariant-loop-i l = PutLoop l.n (take l.count l.puts) (take l.count l.places) l.initial.out l.m l.i l.marks l.out
