-- `look::look_in` meets its contract: the row of its path, or none. Assumes nothing.
use Prim.Native.Nat.{◌-◌}
use Rattle.rules.specs.Tables.{is_entry}
use Rattle.lists.specs.LoopLaws.{FindLoop}
use Rattle.tokens.proofs.look.look_in.Given as goal

abbrev pub invariant-loop-i : goal.invariant-loop-i
invariant-loop-i l = FindLoop (is_entry l.n l.path) l.entries 64 l.i
