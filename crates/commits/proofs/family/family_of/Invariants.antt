-- `family::family_of` meets its contract: a parent after another, by the laws of its walk. Assumes nothing.
use Prim.Native.Nat.{◌-◌}
use lib.ListN.{get_or}
use Rattle.rows.specs.Blank.{blank_token}
use Rattle.commits.specs.FamilyLaws.{FamilyLoop}
use Rattle.commits.proofs.family.family_of.Given as goal

abbrev pub invariant-loop-n : goal.invariant-loop-n
invariant-loop-n l = FamilyLoop l.numbers l.rows (get_or l.initial.tokens 0 blank_token) l.tokens l.n l.parent

abbrev pub decreases-loop-n : goal.decreases-loop-n
decreases-loop-n l = 8 - l.n
