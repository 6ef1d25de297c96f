-- `revoke::descendant_rows` meets its contract: before each row, the bits of the rows so far. Assumes nothing.
use Prim.Native.Nat.{◌-◌}
use Rattle.tokens.proofs.WalkLaws.{DescendantsLoop}
use Rattle.tokens.proofs.revoke.descendant_rows.Given as goal

abbrev pub invariant-loop-i : goal.invariant-loop-i
invariant-loop-i l = DescendantsLoop l.numbers l.parents l.n l.i l.set
