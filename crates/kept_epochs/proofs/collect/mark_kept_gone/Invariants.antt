-- `collect::mark_kept_gone` meets its contract: after i turns the first i entries have their marks. Assumes nothing.
use mathlib.Core.Bool.{false}
use mathlib.Core.List.{map}
use Prim.Native.Nat.{◌-◌}
use lib.ListN.{replicate}
use Rattle.lists.specs.ByteLoopLaws.{FillLoop}
use Rattle.kept_epochs.specs.Parts.{kept_gone}
use Rattle.kept_epochs.proofs.collect.mark_kept_gone.Given as goal

abbrev pub invariant-loop-i : goal.invariant-loop-i
invariant-loop-i l = FillLoop (replicate 64 false) 0 (map (kept_gone l.gone) l.entries) 64 l.i l.marks
