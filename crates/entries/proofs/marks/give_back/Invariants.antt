-- `marks::give_back` meets its contract: what is left to give back decides. Assumes nothing.
use Rattle.entries.specs.MarkLaws.{GiveLoop}
use Rattle.entries.proofs.marks.give_back.Given as goal

abbrev pub invariant-loop-i : goal.invariant-loop-i
invariant-loop-i l = GiveLoop l.volumes l.entries l.marks l.initial.rows l.rows l.i
