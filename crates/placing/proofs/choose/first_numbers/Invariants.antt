-- `choose::first_numbers` meets its contract: after i turns the numbers of the first i keys are stored. Assumes nothing.
use mathlib.Core.List.{map}
use lib.ListN.{replicate}
use Rattle.lists.specs.ByteLoopLaws.{FillLoop}
use Rattle.rules.specs.Fresh.{no_relay}
use Rattle.placing.specs.Order.{key_number}
use Rattle.placing.proofs.choose.first_numbers.Given as goal

abbrev pub invariant-loop-i : goal.invariant-loop-i
invariant-loop-i l = FillLoop (replicate 24 no_relay) 0 (map key_number l.keys) l.n l.i l.relays
