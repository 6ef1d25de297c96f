-- `stores::mark_replaced` meets its contract: after i turns the first i rows have their marks. Assumes nothing.
use mathlib.Core.Bool.{false}
use mathlib.Core.List.{map}
use lib.ListN.{replicate, take}
use Rattle.lists.specs.ByteLoopLaws.{FillLoop}
use Rattle.rules.specs.Commit.{is_replaced}
use Rattle.entries.proofs.stores.mark_replaced.Given as goal

abbrev pub invariant-loop-i : goal.invariant-loop-i
invariant-loop-i l = FillLoop (replicate 64 false) 0 (map (is_replaced l.n (take l.count l.puts)) l.entries) 64 l.i l.marks
