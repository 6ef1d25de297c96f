-- `session_test::paths_differ` meets its contract: a put has the path of a later one only where their keys are the same. Assumes nothing.
use Prim.Native.Nat.{◌+◌, ◌-◌}
use lib.ListN.{get_or, take}
use Rattle.rules.specs.Sound.{same_path}
use Rattle.rows.specs.Blank.{blank_put}
use Rattle.lists.specs.LoopLaws.{AnyLoop, ClashLoop}
use Rattle.sound_rows.proofs.session_test.paths_differ.Given as goal

abbrev pub invariant-loop-j : goal.invariant-loop-j
invariant-loop-j l = AnyLoop (same_path (get_or l.rows l.i blank_put)) (take l.count l.rows) (l.i + 1) l.n l.j

abbrev pub invariant-loop-i : goal.invariant-loop-i
invariant-loop-i l = ClashLoop same_path (take l.count l.rows) l.n l.i

abbrev pub decreases-loop-j : goal.decreases-loop-j
decreases-loop-j l = 8 - l.j
