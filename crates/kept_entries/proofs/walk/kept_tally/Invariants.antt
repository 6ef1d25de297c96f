-- `walk::kept_tally` meets its contract: what was said and counted, with the entries that are left, is the whole. Assumes nothing.
use mathlib.Core.List.{[]}
use Prim.Native.Nat.{◌-◌}
use Rattle.kept_entries.specs.KeptEntries.{entries_in}
use Rattle.kept_entries.proofs.SurveyLaws.{TallyLoop}
use Rattle.kept_entries.proofs.walk.kept_tally.Given as goal

abbrev pub invariant-loop-i : goal.invariant-loop-i
invariant-loop-i l = TallyLoop l.n l.marks (entries_in [] l.entries) l.i l.within l.kept l.used
