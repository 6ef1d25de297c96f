-- `revoke::in_chain` meets its contract: a parent after another, by the laws of its walk. Assumes nothing.
use Prim.Native.Nat.{◌-◌}
use Rattle.tokens.proofs.WalkLaws.{WalkLoop}
use Rattle.tokens.proofs.revoke.in_chain.Given as goal

abbrev pub invariant-loop-count : goal.invariant-loop-count
invariant-loop-count l = WalkLoop l.numbers l.parents l.n l.parent l.count l.next
