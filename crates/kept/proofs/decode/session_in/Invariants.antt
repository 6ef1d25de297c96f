-- `session_in` meets its contract: the puts before i are decoded. Assumes nothing.
use mathlib.Core.List.{map}
use Prim.Native.Nat.{◌-◌}
use lib.ListN.{replicate}
use Rattle.lists.specs.ByteLoopLaws.{FillLoop}
use Rattle.rules.specs.Fresh.{fresh_put}
use Rattle.kept.specs.Kept.{put_in}
use Rattle.kept.proofs.decode.session_in.Given as goal

abbrev pub invariant-loop-i : goal.invariant-loop-i
invariant-loop-i l = FillLoop (replicate 8 fresh_put) 0 (map (put_in l.journal) l.kept) 8 l.i l.puts
