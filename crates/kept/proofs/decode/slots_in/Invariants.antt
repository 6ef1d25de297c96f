-- `slots_in` meets its contract: the slots before i are decoded. Assumes nothing.
use mathlib.Core.List.{map}
use Prim.Native.Nat.{◌-◌}
use lib.ListN.{replicate}
use Rattle.lists.specs.ByteLoopLaws.{FillLoop}
use Rattle.rules.specs.Fresh.{fresh_session}
use Rattle.kept.specs.Kept.{session_in}
use Rattle.kept.proofs.decode.slots_in.Given as goal

abbrev pub invariant-loop-i : goal.invariant-loop-i
invariant-loop-i l = FillLoop (replicate 4 fresh_session) 0 (map (session_in l.journal) l.slots) 4 l.i l.sessions
