-- `stores::count_new` meets its contract: what is counted and what is left are the whole; before each entry, what was found with what is left
-- is whether the volume has the path. Assumes nothing.
use lib.ListN.{take}
use Rattle.rules.specs.Commit.{is_new_path}
use Rattle.entries.proofs.CountLaws.{CountLoop}
use Rattle.entries.proofs.FlagLaws.{SeekLoop}
use Rattle.entries.proofs.stores.count_new.Given as goal

abbrev pub invariant-loop-j : goal.invariant-loop-j
invariant-loop-j l = SeekLoop l.n (take l.k l.b) l.marks l.entries l.j l.there

abbrev pub invariant-loop-i : goal.invariant-loop-i
invariant-loop-i l = CountLoop (is_new_path l.n l.entries) (take l.count l.puts) l.m l.i l.new
