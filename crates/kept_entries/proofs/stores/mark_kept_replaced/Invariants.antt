-- Before each row, the rows below it have their marks; before each put, what was found with what is left is whether one has the path.
use Rattle.std.proofs.Common.{false, ◌-◌, map, replicate, take}
use Rattle.lists.specs.ByteLoopLaws.{FillLoop}
use Rattle.rules.specs.Tables.{is_put}
use Rattle.rules.specs.Commit.{is_replaced}
use Rattle.kept_entries.specs.KeptEntries.{entries_in, puts_in, path_in}
use Rattle.kept_entries.proofs.FlagLaws.{FlagLoop}
use Rattle.kept_entries.proofs.stores.mark_kept_replaced.Given as goal

abbrev pub invariant-loop-i : goal.invariant-loop-i
invariant-loop-i l =
    FillLoop (replicate 64 false) 0 (map (is_replaced l.fn.n (take l.fn.count (puts_in l.fn.journal l.fn.puts))) (entries_in l.fn.journal l.fn.entries)) 64 l.i l.marks

abbrev pub invariant-loop-k : goal.invariant-loop-k
invariant-loop-k l = FlagLoop (is_put (path_in l.fn.journal l.at l.len)) (take l.fn.count (puts_in l.fn.journal l.fn.puts)) l.m l.k l.found
