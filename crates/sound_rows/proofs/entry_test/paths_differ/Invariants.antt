-- `entry_test::paths_differ` meets its contract: a row clashes with a later one only where their keys are the same. Assumes nothing.
use Prim.Native.Nat.{◌+◌, ◌-◌}
use lib.ListN.{get_or}
use Rattle.rules.specs.Sound.{same_entry}
use Rattle.rows.specs.Blank.{blank_entry}
use Rattle.lists.specs.LoopLaws.{AnyLoop, ClashLoop}
use Rattle.sound_rows.proofs.entry_test.paths_differ.Given as goal

abbrev pub invariant-loop-j : goal.invariant-loop-j
invariant-loop-j l = AnyLoop (same_entry (get_or l.rows l.i blank_entry)) l.rows (l.i + 1) 64 l.j

abbrev pub invariant-loop-i : goal.invariant-loop-i
invariant-loop-i l = ClashLoop same_entry l.rows 64 l.i

abbrev pub decreases-loop-j : goal.decreases-loop-j
decreases-loop-j l = 64 - l.j
