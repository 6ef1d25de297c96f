-- `keys::put_keys` meets its contract: after i turns the first i numbers are made. Assumes nothing.
use mathlib.Core.List.{map}
use lib.ListN.{replicate, take}
use Rattle.lists.specs.ByteLoopLaws.{FillLoop}
use Rattle.entries.specs.Keys.{put_key}
use Rattle.entries.proofs.keys.put_keys.Given as goal

abbrev pub invariant-loop-i : goal.invariant-loop-i
invariant-loop-i l = FillLoop (replicate 8 0) 0 (map (put_key l.n) (take l.count l.puts)) l.m l.i l.keys
