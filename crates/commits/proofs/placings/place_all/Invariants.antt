-- `placings::place_all` meets its contract: put after put, each as the rule places it. Assumes nothing.
use lib.ListN.{take}
use Rattle.commits.proofs.PlaceLoops.{PlaceLoop}
use Rattle.commits.proofs.placings.place_all.Given as goal

abbrev pub invariant-loop-i : goal.invariant-loop-i
invariant-loop-i l = PlaceLoop l.clock l.k l.m (take l.count l.puts) l.initial.rows l.count l.i l.places l.rows
