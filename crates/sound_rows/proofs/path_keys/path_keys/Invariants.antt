-- `path_keys::path_keys` meets its contract: after i turns the keys of the first i entries are stored. Assumes nothing.
use mathlib.Core.List.{map}
use Prim.Native.Nat.{◌-◌}
use lib.ListN.{replicate}
use Rattle.lists.specs.ByteLoopLaws.{FillLoop}
use Rattle.sound_rows.specs.PathKeys.{path_key}
use Rattle.sound_rows.proofs.path_keys.path_keys.Given as goal

abbrev pub invariant-loop-i : goal.invariant-loop-i
invariant-loop-i l = FillLoop (replicate 64 0) 0 (map path_key l.rows) 64 l.i l.keys
